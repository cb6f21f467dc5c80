use Rattle.std.proofs.Common.{◌≡◌, ◌&&◌, ℕ}
use Rattle.tpl_model.specs.Members.{mem}
use Rattle.tpl_laws.specs.RowTests.{some_below, takes_over}
use Rattle.tpl_token_leaf.specs.Leaf.{graph_of}
use Rattle.tpl_token_check.proofs.readers.taken_over.Given as goal

abbrev pub invariant-loop-number : goal.invariant-loop-number
invariant-loop-number l = (y : ℕ) → mem y l.taken ≡ some_below (λ x. takes_over (graph_of l.leaf) x y && mem x l.takers) l.number
