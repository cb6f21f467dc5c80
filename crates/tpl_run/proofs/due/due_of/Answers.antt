use Rattle.std.proofs.Common.{refl}
use Rattle.tpl_model.specs.declared.event.Act.TheVariants.{Release, Close, Drop, Settle}
use Rattle.tpl_run.proofs.DueLemmas.{denies, none_due}
use Rattle.tpl_run.proofs.due.due_of.Goals as goal

pub returns-then-may_release-clause-some : goal.returns-then-may_release-clause-some
returns-then-may_release-clause-some g c = record { of_task = refl; task = c.requires; allowed = λ actor. (c.may_release.ensures actor).0 c.if-may_release.true }

pub returns-then-may_drop-clause-some : goal.returns-then-may_drop-clause-some
returns-then-may_drop-clause-some g c = record { of_task = refl; task = c.requires; allowed = λ actor. (c.may_drop.ensures actor).0 c.if-may_drop.true }

pub returns-then-may_close-clause-some : goal.returns-then-may_close-clause-some
returns-then-may_close-clause-some g c = record { of_task = refl; task = c.requires; allowed = λ actor. (c.may_close.ensures actor).0 c.if-may_close.true }

pub returns-then-may_settle-clause-some : goal.returns-then-may_settle-clause-some
returns-then-may_settle-clause-some g c = record { of_task = refl; task = c.requires; allowed = λ actor. (c.may_settle.ensures actor).0 c.if-may_settle.true }

pub returns-else-may_settle-clause-none : goal.returns-else-may_settle-clause-none
returns-else-may_settle-clause-none g c =
    let j = g.R.Readers.journal c.args.run.now in
    let t = c.args.task.0 in
    none_due j.graph j.inputs j.events t
    (denies j.graph j.inputs j.events t Release _ c.may_release.ensures c.if-may_release.false)
    (denies j.graph j.inputs j.events t Drop _ c.may_drop.ensures c.if-may_drop.false)
    (denies j.graph j.inputs j.events t Close _ c.may_close.ensures c.if-may_close.false)
    (denies j.graph j.inputs j.events t Settle _ c.may_settle.ensures c.if-may_settle.false)
