use Rattle.std.proofs.Common.{◌≡◌, length}
use Rattle.tpl_checker.specs.Assumptions.{assumed_of}
use Rattle.tpl_token_leaf.specs.Narrowed.{narrowed_before}
use Rattle.tpl_token_leaf.proofs.narrowing.narrowed.Given as goal

abbrev pub invariant-loop-number : goal.invariant-loop-number
invariant-loop-number l =
    narrowed_before l.graph.graph (assumed_of l.narrowed) l.number ≡ narrowed_before l.graph.graph (assumed_of l.assumed) (length l.graph.graph.tasks)
