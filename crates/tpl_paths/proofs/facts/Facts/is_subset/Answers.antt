use Rattle.std.proofs.Common.{◌≡◌, ℕ, true, sym, ◌∙◌}
use Rattle.tpl_model.specs.TaskSet.{IsSubset}
use Rattle.tpl_model.proofs.Truths.{true_false}
use Rattle.tpl_model.specs.Knowledge.{Fact, IsSettled, IsRequested}
use Rattle.tpl_paths.specs.declared.facts.Facts.{Facts}
use Rattle.tpl_paths.specs.TokenSet.{has_token}
use Rattle.tpl_paths.specs.Facts.{has_fact}
use Rattle.tpl_paths.proofs.facts.Facts.is_subset.Goals as goal

both : (s o : Facts) → IsSubset s.tasks o.tasks → ((k : ℕ) → has_token s.tokens k ≡ true → has_token o.tokens k ≡ true) → (f : Fact) → has_fact s f ≡ true → has_fact o f ≡ true
both s o tasks tokens (IsSettled x) h = tasks x h
both s o tasks tokens (IsRequested k) h = tokens k h

pub returns-then-is_subset : goal.returns-then-is_subset
returns-then-is_subset c = (
  λ e f h. both c.args.self.now c.args.other.now (c.is_subset.ensures.subset.0 c.if-is_subset.true) (c.is_subset-then-is_subset.ensures.0 e) f h,
  λ all. c.is_subset-then-is_subset.ensures.1 (λ k h. all (IsRequested k) h),
)

pub returns-else-is_subset : goal.returns-else-is_subset
returns-else-is_subset c =
    (λ e. true_false (sym e ∙ c.if-is_subset.false), λ all. c.is_subset.ensures.subset.1 (λ x h. all (IsSettled x) h))
