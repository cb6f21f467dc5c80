use Rattle.std.proofs.Common.{◌≡◌, ℕ}
use Rattle.tpl_model.specs.Members.{mem}
use Rattle.tpl_laws.specs.RowTests.{some_below}
use Rattle.tpl_laws.specs.LeastRows.{is_reader}
use Rattle.tpl_token_leaf.specs.Leaf.{graph_of, assumed_in}
use Rattle.tpl_token_check.proofs.readers.read_tasks.Given as goal

abbrev pub invariant-loop-number : goal.invariant-loop-number
invariant-loop-number l = (y : ℕ) → mem y l.read ≡ some_below (is_reader (graph_of l.leaf) (assumed_in l.leaf) y) l.number
