use Rattle.std.proofs.Common.{reverse, ap, ◌∙◌}
use Rattle.tpl_machine.specs.Marks.{latest}
use Rattle.tpl_machine.proofs.MarkLemmas.{status_read}
use Rattle.tpl_machine.proofs.machine.readers.MachineReaders.status_of.Goals as goal

pub returns-in-None : goal.returns-in-None
returns-in-None c =
    status_read _ _ c.args.task.0 _ _ _ _ _ c.self.view_is c.self.invariant.0.run c.final_of.ensures c.in-None.is
    (c.latest-mark.ensures ∙ ap (λ xs. latest (reverse xs) c.args.task.0) c.as_slice.ensures.value) c.kind.ensures c.was_started.ensures c.status_open.ensures
