use Rattle.std.proofs.Common.{◌||◌, ap, ◌∙◌, bit_or}
use Rattle.tpl_model.specs.Members.{mem}
use Rattle.tpl_model.specs.TaskSet.{members_of}
use Rattle.tpl_model.proofs.BitSets.{fill_more, members_of-or, members_of-set}
use Rattle.tpl_model.proofs.task_set.TaskSet.union.Goals as goal

pub loop-i-preserved : goal.loop-i-preserved
loop-i-preserved c = fill_more bit_or c.self.inside.words c.other.inside.words c.loop-i.words c.loop-i.i c.loop-i-test.true c.loop-i.invariant

pub returns-clause-members : goal.returns-clause-members
returns-clause-members c x =
    members_of-or c.self.inside.words c.other.inside.words c.loop-i.words c.loop-i.i c.loop-i-test.false c.self.told c.other.told c.loop-i.invariant x
    ∙ (ap (λ s. mem x s || mem x (members_of c.other.inside.words)) c.self.view_is ∙ ap (λ s. mem x c.args.self.now || mem x s) c.other.view_is)

pub returns-clause-set : goal.returns-clause-set
returns-clause-set c = members_of-set c.loop-i.words c.loop-i.invariant.long
