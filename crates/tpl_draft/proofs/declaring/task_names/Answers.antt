use Rattle.tpl_draft.specs.Draft.{Task}
use Rattle.tpl_draft.specs.SeenTasks.{task_of}
use Rattle.tpl_draft.proofs.NamesLemmas.{all_named}
use Rattle.tpl_draft.proofs.declaring.task_names.Goals as goal

pub returns : goal.returns
returns c = all_named task_of (λ (x : Task). x.name) _ _ _ c.loop-task-test.false c.loop-task.invariant
