use Rattle.std.proofs.Common.{◌≡◌, IsTrue, subst}
use Rattle.tpl_model.specs.declared.ids.TaskId.{TaskId}
use Rattle.tpl_verify.specs.Verdicts.{ThrowsNowhere}
use Rattle.tpl_verify.proofs.empty.lacks_exception.Goals as goal

pub returns-else-never-clause-plain : goal.returns-else-never-clause-plain
returns-else-never-clause-plain c lacks =
    let same : lacks.0 ≡ c.in-Observed.task = cc in
    let yes : IsTrue c.in_ok-never-in-Observed.never = c.in_ok-never-in-Observed.ensures.nowhere
    (subst (λ (t : TaskId). ThrowsNowhere c.args.question.now.graph.now.graph c.args.question.now.claim.now.given t.0) same lacks.2) in
    cc
