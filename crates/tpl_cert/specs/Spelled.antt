-- Which tree a JSON value spells, or what is wrong with it.
use Rattle.std.specs.Prelude.{Result, Ok, ok_or}
use Rattle.serde_json.specs.Data.{Data}
use Rattle.tpl_model.specs.declared.rule_set.RuleSet.{RuleSet}
use Rattle.tpl_model.specs.Certificate.{Tree}
use Rattle.tpl_draft.specs.Named.{Names}
use Rattle.tpl_json.specs.Members.{only_if}
use Rattle.tpl_json.specs.Passes.{◌>>=◌}
use Rattle.tpl_cert.specs.declared.fault.TreeFault.{TreeFault}
use Rattle.tpl_cert.specs.declared.fault.TreeFault.TheVariants.{Shape, Limit}
use Rattle.tpl_cert.specs.Reading.{whole_tree}
use Rattle.tpl_cert.specs.Naming.{tree_in}
use Rattle.tpl_trees.specs.Heights.{is_within_limits}

-- the tree that the value spells, with the names of a graph for the ids, or what is wrong: no tree is spelled so, or a name in it isn't the graph's
unfoldable pub spelled_tree : RuleSet → Names → Data → Result Tree TreeFault
spelled_tree rules n d = do
  named ← ok_or (whole_tree rules d) Shape
  tree_in n named

-- the tree that the value is read as: it doesn't go beyond the limits either
unfoldable pub read_tree : RuleSet → Names → Data → Result Tree TreeFault
read_tree rules n d = do
  tree ← spelled_tree rules n d
  few ← ok_or (only_if (is_within_limits tree)) Limit
  Ok tree
