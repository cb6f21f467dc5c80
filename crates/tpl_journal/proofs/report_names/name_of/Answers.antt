use Rattle.tpl_journal.proofs.NameLemmas.{name_short}
use Rattle.tpl_journal.proofs.report_names.name_of.Goals as goal

pub returns-then-task-len-clause-short : goal.returns-then-task-len-clause-short
returns-then-task-len-clause-short c = name_short c.name.result.now (c.valid_law.ensures.tasks_spelled c.args.task.0 c.name.result.now c.name.ensures)
