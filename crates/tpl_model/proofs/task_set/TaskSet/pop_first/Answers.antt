use Rattle.std.proofs.Common.{◌^◌, ◌<◌, refl, sym, ap, ◌∙◌, subst, arith, rules}
use Rattle.std.specs.Prelude.{slice_index}
use Rattle.tpl_model.specs.TaskSet.{IsTaskSet, members_of}
use Rattle.tpl_model.proofs.BitSets.{members_of-set, members_of-empty, members_of-first}
use Rattle.tpl_model.proofs.task_set.TaskSet.pop_first.Goals as goal

pub returns-then-word-ne0-clause-first : goal.returns-then-word-ne0-clause-first
returns-then-word-ne0-clause-first c =
    let words = c.loop-i.self-inside.words in
    let fits : slice_index words c.loop-i.i < 2 ^ 64 = search rules in
    let some : 0 < slice_index words c.loop-i.i = grind (arith, c.if-word-ne0.true) in
    sym c.self.view_is ∙ (ap members_of (sym c.loop-i.invariant.same) ∙ members_of-first words c.loop-i.i _ c.loop-i-test.true fits some c.loop-i.invariant.empty refl)

pub returns-then-word-ne0-clause-set : goal.returns-then-word-ne0-clause-set
returns-then-word-ne0-clause-set c = subst IsTaskSet c.self.view_is (members_of-set c.self.inside.words c.self.told)

pub returns-clause-first : goal.returns-clause-first
returns-clause-first c =
    let none = members_of-empty c.loop-i.self-inside.words c.loop-i.i c.loop-i-test.false c.loop-i.invariant.empty in
    (sym c.self.view_is ∙ (ap members_of (sym c.loop-i.invariant.same) ∙ none), none)

pub returns-clause-set : goal.returns-clause-set
returns-clause-set c = subst IsTaskSet c.self.view_is (members_of-set c.self.inside.words c.self.told)
