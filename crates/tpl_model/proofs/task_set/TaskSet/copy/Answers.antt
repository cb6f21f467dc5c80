use Rattle.tpl_model.proofs.BitSets.{members_of-set}
use Rattle.tpl_model.proofs.task_set.TaskSet.copy.Goals as goal

pub returns-clause-set : goal.returns-clause-set
returns-clause-set c = members_of-set c.self.inside.words c.self.told
