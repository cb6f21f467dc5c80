use Rattle.std.proofs.Common.{sym, subst, arith, rules}
use Rattle.tpl_model.specs.TaskSet.{IsTaskSet, IsSubset, members_of}
use Rattle.tpl_model.proofs.BitSets.{members_of-set, subset_of_words, no_subset}
use Rattle.tpl_model.proofs.task_set.TaskSet.is_subset.Goals as goal

pub returns-then-self-i-clause-subset : goal.returns-then-self-i-clause-subset
returns-then-self-i-clause-subset c = (
  λ e. cc,
  λ sub. absurd (no_subset c.self.inside.words c.other.inside.words c.loop-i.i (search rules) c.if-self-i.true
      (subst (λ xs. IsSubset xs (members_of c.other.inside.words)) (sym c.self.view_is) (subst (λ ys. IsSubset c.args.self.now ys) (sym c.other.view_is) sub))),
)

pub returns-then-self-i-clause-sets : goal.returns-then-self-i-clause-sets
returns-then-self-i-clause-sets c =
    (subst IsTaskSet c.self.view_is (members_of-set c.self.inside.words c.self.told), subst IsTaskSet c.other.view_is (members_of-set c.other.inside.words c.other.told))

pub returns-clause-subset : goal.returns-clause-subset
returns-clause-subset c = (
  λ e. subst (λ xs. IsSubset xs c.args.other.now) c.self.view_is (subst (λ ys. IsSubset (members_of c.self.inside.words) ys) c.other.view_is
      (subset_of_words c.self.inside.words c.other.inside.words c.self.told (λ k lt. c.loop-i.invariant k (let le = c.loop-i-test.false in omega arith)))),
  λ sub. search rules,
)

pub returns-clause-sets : goal.returns-clause-sets
returns-clause-sets c =
    (subst IsTaskSet c.self.view_is (members_of-set c.self.inside.words c.self.told), subst IsTaskSet c.other.view_is (members_of-set c.other.inside.words c.other.told))
