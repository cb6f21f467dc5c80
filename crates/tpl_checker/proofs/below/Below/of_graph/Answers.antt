use Rattle.std.proofs.Common.{◌≡◌, length, subst, arith}
use Rattle.tpl_checker.proofs.BelowLemmas.{SetsSoFar, sets_at_last}
use Rattle.tpl_checker.proofs.below.Below.of_graph.Goals as goal

pub returns : goal.returns
returns c =
    let g = c.args.graph.now.graph in
    let all : c.loop-task.task ≡ length g.tasks = omega arith in
    record { members = λ t x lt. sets_at_last g c.loop-task.sets c.valid_law.ensures.graph c.below_is_right.ensures (subst (λ n. SetsSoFar g c.loop-task.sets n) all c.loop-task.invariant) t x }
