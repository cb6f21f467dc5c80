use Rattle.std.proofs.Common.{◌/◌, ◌||◌, ap, ◌∙◌, arith, nat_eq}
use Rattle.std.proofs.lemmas.List.{length-set}
use Rattle.tpl_model.specs.Members.{mem}
use Rattle.tpl_model.proofs.BitSets.{members_of-insert, members_of-set}
use Rattle.tpl_model.proofs.task_set.TaskSet.insert.Goals as goal

pub returns-clause-members : goal.returns-clause-members
returns-clause-members c x =
    members_of-insert c.self.inside.words c.args.task.0 (let e = c.self.told in omega arith) x
    ∙ ap (λ s. nat_eq x c.args.task.0 || mem x s) c.self.view_is

pub returns-clause-set : goal.returns-clause-set
returns-clause-set c = members_of-set _ (length-set c.self.inside.words (c.args.task.0 / 64) _ ∙ c.self.told)
