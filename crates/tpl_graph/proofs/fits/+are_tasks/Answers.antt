use Rattle.std.proofs.Common.{◌↔◌, ◌∙◌, IsTrue, List, subst, sym, true≢false}
use Rattle.tpl_model.specs.declared.ids.TaskId.{TaskId}
use Rattle.tpl_model.specs.Claims.{AreAll}
use Rattle.tpl_model.specs.Graph.{is_task}
use Rattle.tpl_graph.proofs.TaskLemmas.{behind_none, behind_some}
use Rattle.tpl_graph.proofs.fits.+are_tasks.Goals as goal

pub returns-in-None : goal.returns-in-None
returns-in-None t c =
    subst (λ (xs : List TaskId). IsTrue c.are_tasks.result ↔ AreAll (λ s. is_task c.args.graph.now.graph s.0) xs)
    (behind_none c.args.tasks.now c.in-len1-up.len_at_least c.in-None.is) c.are_tasks.ensures

pub returns-then-is_task : goal.returns-then-is_task
returns-then-is_task t c =
    let more = behind_some (λ (s : TaskId). is_task c.args.graph.now.graph s.0) c.in-Some.task c.args.tasks.now c.in-len1-up.len_at_least c.in-Some.is in
    let first = c.is_task.ensures.0 c.if-is_task.true in
    let rest = c.are_tasks-then-is_task.ensures in
    (λ all. more.1 (first, rest.0 all), λ all. rest.1 (more.0 all).1)

pub returns-else-is_task : goal.returns-else-is_task
returns-else-is_task t c =
    let more = behind_some (λ (s : TaskId). is_task c.args.graph.now.graph s.0) c.in-Some.task c.args.tasks.now c.in-len1-up.len_at_least c.in-Some.is in
    (λ first. absurd (true≢false (sym first ∙ c.if-is_task.false)), λ all. c.is_task.ensures.1 (more.0 all).0)
