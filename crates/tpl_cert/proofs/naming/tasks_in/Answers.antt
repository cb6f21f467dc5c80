use Rattle.std.proofs.Common.{refl}
use Rattle.std.proofs.lemmas.Result.{err_from_is_err_and}
use Rattle.tpl_model.specs.Members.{mem}
use Rattle.tpl_json.proofs.Passes.{each_more, each_done, each_fails, fails_bind}
use Rattle.tpl_cert.specs.Naming.{number_in}
use Rattle.tpl_cert.proofs.Names.{collects_none, collects_more, tasks_collected}
use Rattle.tpl_cert.proofs.naming.tasks_in.Goals as goal

pub loop-name-init : goal.loop-name-init
loop-name-init c = (rw c.empty-set.ensures tt, collects_none c.args.graph.now.names.tasks (λ x. mem x c.empty-set.result) (λ x. rw c.empty-set.ensures refl))

pub returns-in_err-task : goal.returns-in_err-task
returns-in_err-task c =
    let p = err_from_is_err_and c.from_residual.result c.from_residual.ensures.1 in
    rw (p.1, p.2) (fails_bind c.in_err-task.field-0.0 _ _ (each_fails (λ n text. number_in c.args.graph.now.names.tasks text) (λ s. s.now) c.args.names.now c.loop-name.name-index _ c.loop-name.invariant.1.numbers c.in_err-task.field-0.0 c.loop-name-test.true c.loop-name.invariant.1.named c.in_err-task.ensures.yields))

pub loop-name-preserved : goal.loop-name-preserved
loop-name-preserved c =
    let is = c.loop-name.invariant.1 in (
      c.insert.ensures.set,
      collects_more c.args.graph.now.names.tasks _ _ (λ x. mem x c.loop-name.set) (λ x. mem x c.insert.new.self) c.in_ok-task.task.0 is
          (each_more (λ n text. number_in c.args.graph.now.names.tasks text) (λ s. s.now) c.args.names.now c.loop-name.name-index _ is.numbers c.in_ok-task.task.0 c.loop-name-test.true is.named c.in_ok-task.ensures.yields)
          c.insert.ensures.members,
    )

pub returns : goal.returns
returns c =
    let is = c.loop-name.invariant.1 in
    tasks_collected c.args.graph.now.names.tasks _ c.loop-name.set c.loop-name.invariant.0
    (record { numbers = is.numbers; named = each_done (λ n text. number_in c.args.graph.now.names.tasks text) (λ s. s.now) c.args.names.now c.loop-name.name-index is.numbers c.loop-name-test.false is.named; members = is.members })
