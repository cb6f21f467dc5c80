use Rattle.std.proofs.Common.{◌/◌, ◌%◌, get_or, sym, ap, ◌∙◌, subst, nat_eq}
use Rattle.std.proofs.lemmas.Nat.Bits.{shr_and_one}
use Rattle.tpl_model.specs.Members.{mem}
use Rattle.tpl_model.specs.TaskSet.{IsTaskSet}
use Rattle.tpl_model.proofs.BitSets.{mem-members_of, members_of-set, contains_past}
use Rattle.tpl_model.proofs.task_set.TaskSet.contains.Goals as goal

pub returns-then-at-lt-SET_WORDS-clause-member : goal.returns-then-at-lt-SET_WORDS-clause-member
returns-then-at-lt-SET_WORDS-clause-member c =
    ap (λ b. nat_eq b 1) (shr_and_one (get_or c.self.inside.words (c.args.task.0 / 64) 0) (c.args.task.0 % 64))
    ∙ (sym (mem-members_of c.self.inside.words c.args.task.0) ∙ ap (mem c.args.task.0) c.self.view_is)

pub returns-then-at-lt-SET_WORDS-clause-set : goal.returns-then-at-lt-SET_WORDS-clause-set
returns-then-at-lt-SET_WORDS-clause-set c = subst IsTaskSet c.self.view_is (members_of-set c.self.inside.words c.self.told)

pub returns-else-at-lt-SET_WORDS-clause-member : goal.returns-else-at-lt-SET_WORDS-clause-member
returns-else-at-lt-SET_WORDS-clause-member c =
    contains_past c.self.inside.words c.args.task.0 c.self.told c.if-at-lt-SET_WORDS.false
    ∙ ap (mem c.args.task.0) c.self.view_is

pub returns-else-at-lt-SET_WORDS-clause-set : goal.returns-else-at-lt-SET_WORDS-clause-set
returns-else-at-lt-SET_WORDS-clause-set c = subst IsTaskSet c.self.view_is (members_of-set c.self.inside.words c.self.told)
