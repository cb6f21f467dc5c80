-- A tree that is read, first with names and then with ids.
use Rattle.std.proofs.Common.{◌≡◌, ◌⊎◌, inl, inr, true, false, Some, Ok, Err, refl}
use Rattle.serde_json.specs.Data.{Data}
use Rattle.tpl_model.specs.declared.rule_set.RuleSet.{RuleSet}
use Rattle.tpl_model.specs.Certificate.{Tree}
use Rattle.tpl_draft.specs.Named.{Names}
use Rattle.tpl_json.specs.declared.miss.Miss.{Miss}
use Rattle.tpl_json.specs.declared.miss.Miss.TheVariants as miss
use Rattle.tpl_json.specs.declared.miss.Shape as declared
use Rattle.tpl_json.specs.Members.{Misses}
use Rattle.tpl_json.specs.Passes.{Fails}
use Rattle.tpl_trees.specs.Heights.{is_within_limits}
use Rattle.tpl_cert.specs.NamedTrees.{NamedTree}
use Rattle.tpl_cert.specs.Faults.{shape_fault, tree_fault}
use Rattle.tpl_cert.specs.Naming.{tree_in}
use Rattle.tpl_cert.specs.Reading.{whole_tree}
use Rattle.tpl_cert.specs.Spelled.{spelled_tree, read_tree}
use Rattle.tpl_cert.specs.declared.fault.TreeFault.{TreeFault}
use Rattle.tpl_cert.specs.declared.fault.TreeFault.TheVariants.{Limit, Memory}

module _ (rules : RuleSet) (n : Names) (d : Data) where
  -- it has the wrong shape
  pub misspelled : (e : Miss declared.Shape) → Misses e (whole_tree rules d) → (shape_fault e ≡ Memory) ⊎ (read_tree rules n d ≡ Err (shape_fault e))
  unfolding spelled_tree read_tree
  misspelled (miss.Wrong shape) none = inr (rw none refl)
  misspelled miss.Memory none = inl refl

  module _ (named : NamedTree) (spells : whole_tree rules d ≡ Some named) where
    -- a name isn't the graph's
    pub misnamed : (e : Miss TreeFault) → Fails e (tree_in n named) → (tree_fault e ≡ Memory) ⊎ (read_tree rules n d ≡ Err (tree_fault e))
    unfolding spelled_tree read_tree
    misnamed (miss.Wrong fault) unknown = inr (rw (spells, unknown) refl)
    misnamed miss.Memory unknown = inl refl

    -- the limits decide
    pub read_within_them : (t : Tree) → tree_in n named ≡ Ok t → is_within_limits t ≡ true → read_tree rules n d ≡ Ok t
    unfolding spelled_tree read_tree
    read_within_them t is within = rw (spells, is, within) refl

    pub past_them : (t : Tree) → tree_in n named ≡ Ok t → is_within_limits t ≡ false → read_tree rules n d ≡ Err Limit
    unfolding spelled_tree read_tree
    past_them t is past = rw (spells, is, past) refl
