-- The kind of a task that was matched, in place of its own.
use Rattle.std.proofs.Common.{◌≡◌, ℕ, Bool, ap, subst}
use Rattle.tpl_model.specs.Knowledge.{Fact}
use Rattle.tpl_model.specs.Graph.{TaskKind, kind}
use Rattle.tpl_model.specs.TokenRules.{with_winners}
use Rattle.tpl_token_leaf.specs.declared.leaf.Leaf.{Leaf}
use Rattle.tpl_token_leaf.specs.Leaf.{graph_of, assumed_in}
use Rattle.tpl_token_leaf.specs.LeafRules.{ends_as, ends_by_ways, kind_left_in}

module _ (leaf : Leaf) (t : ℕ) (k : TaskKind) (is : k ≡ kind (graph_of leaf) t) where
  -- in a test
  pub at_kind : (test : TaskKind → Bool) → test (with_winners ((assumed_in leaf).wins t) k) ≡ test (kind_left_in leaf t)
  at_kind test = ap (λ z. test (with_winners ((assumed_in leaf).wins t) z)) is

  -- where a task of this kind ends by its ways
  pub by_ways : (fact : Fact) → ends_by_ways leaf t k fact ≡ ends_as leaf t (with_winners ((assumed_in leaf).wins t) k) fact → ends_by_ways leaf t (kind (graph_of leaf) t) fact ≡ ends_as leaf t (kind_left_in leaf t) fact
  by_ways fact e = subst (λ (z : TaskKind). ends_by_ways leaf t z fact ≡ ends_as leaf t (with_winners ((assumed_in leaf).wins t) z) fact) is e
