-- What is spelled within the limits is read.
use Rattle.std.proofs.Common.{◌≡◌, true, Ok, refl}
use Rattle.serde_json.specs.Data.{Data}
use Rattle.tpl_model.specs.declared.rule_set.RuleSet.{RuleSet}
use Rattle.tpl_model.specs.Certificate.{Tree}
use Rattle.tpl_draft.specs.Named.{Names}
use Rattle.tpl_trees.specs.Heights.{IsWithinLimits, is_within_limits}
use Rattle.tpl_trees.proofs.WithinLimits.{within_to}
use Rattle.tpl_cert.specs.Spelled.{spelled_tree, read_tree}

passes_read : (rules : RuleSet) (n : Names) (d : Data) (t : Tree) → spelled_tree rules n d ≡ Ok t → is_within_limits t ≡ true → read_tree rules n d ≡ Ok t
unfolding read_tree
passes_read rules n d t e passes = rw (e, passes) refl

pub read_within : (rules : RuleSet) (n : Names) (d : Data) (t : Tree) → spelled_tree rules n d ≡ Ok t → IsWithinLimits t → read_tree rules n d ≡ Ok t
read_within rules n d t e within = passes_read rules n d t e (within_to t within)
