use Rattle.std.proofs.Common.{refl}
use Rattle.tpl_model.specs.TaskSet.{members_of}
use Rattle.tpl_model.proofs.task_set.TaskSet.empty.Goals as goal

pub returns : goal.returns
unfolding members_of
returns c = refl
