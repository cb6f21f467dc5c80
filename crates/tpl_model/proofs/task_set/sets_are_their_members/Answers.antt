use Rattle.tpl_model.proofs.SetLists.{sets_lem}
use Rattle.tpl_model.proofs.task_set.sets_are_their_members.Goals as goal

pub returns : goal.returns
returns c = sets_lem
