use Rattle.std.proofs.Common.{◌≡◌, length, subst, arith}
use Rattle.tpl_checker.proofs.BelowLemmas.{BelowSoFar, below_at_last, below_step}
use Rattle.tpl_checker.proofs.below.tasks_below.Goals as goal

pub loop-child-preserved : goal.loop-child-preserved
loop-child-preserved c =
    below_step c.args.graph.now.graph c.args.task.0 c.loop-child.child c.valid_law.ensures.graph c.below_in_one_pass.ensures c.parent_is_right.ensures c.loop-child.found c.loop-child.invariant
    c.is_attached_below-attached.result c.with_if-found.result c.is_attached_below-attached.ensures c.with_if-found.ensures

pub returns-after-loop-child : goal.returns-after-loop-child
returns-after-loop-child c =
    let g = c.args.graph.now.graph in
    let all : c.loop-child.child ≡ length g.tasks = omega arith in
    below_at_last g c.args.task.0 c.valid_law.ensures.graph c.below_is_right.ensures c.loop-child.found (subst (λ n. BelowSoFar g c.args.task.0 n c.loop-child.found) all c.loop-child.invariant)
