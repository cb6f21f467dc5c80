use Rattle.tpl_examples.proofs.Roots.{number_of_tasks_lem}
use Rattle.tpl_examples.proofs.many_tasks.number_of_tasks.Goals as goal

pub returns : goal.returns
returns c = number_of_tasks_lem
