-- Tests of each fact of a row.
use Rattle.std.proofs.Common.{◌≡◌, ℕ, ◌&&◌, Bool, true, List, ◌∙◌}
use Rattle.tpl_model.specs.Members.{mem}
use Rattle.tpl_model.specs.Knowledge.{Fact, IsSettled, IsRequested}
use Rattle.tpl_model.specs.Certificate.{row, Row, plain}
use Rattle.tpl_model.specs.TokenRules.{whole_row, ends_with}
use Rattle.tpl_laws.specs.RowTests.{all_in}
use Rattle.tpl_laws.specs.TokenTests.{each_begin, each_ending}
use Rattle.tpl_checker.proofs.Basics.{all_true, members_of_it}

module _ (rows : List Row) (t : ℕ) (test : Fact → Bool) where
  -- a test that each fact passes
  pub begins_all : ((f : Fact) → test f ≡ true) → each_begin rows t test ≡ true
  begins_all h = λ i. all_true (λ x. test (IsSettled x)) (row (plain rows) t).before (λ x. h (IsSettled x)) i && all_true (λ k. test (IsRequested k)) (whole_row rows t).asked (λ k. h (IsRequested k)) i

  -- tokens of the row itself that pass a test, as a limit
  pub begins_of_its_tokens : (limit : Fact → Bool) → ((x : ℕ) → limit (IsSettled x) ≡ test (IsSettled x)) → ((k : ℕ) → limit (IsRequested k) ≡ (mem k (whole_row rows t).asked && test (IsRequested k))) → each_begin rows t limit ≡ each_begin rows t test
  begins_of_its_tokens limit tasks tokens =
      λ i. all_in (λ x. tasks x i) (row (plain rows) t).before && ((λ j. all_in (λ k. tokens k j) (whole_row rows t).asked) ∙ members_of_it (λ k. test (IsRequested k)) (whole_row rows t).asked) i

  pub ends_all : ((f : Fact) → test f ≡ true) → each_ending rows t test ≡ true
  ends_all h = λ i. all_true (λ x. test (IsSettled x)) (row (plain rows) t).past (λ x. h (IsSettled x)) i && all_true (λ k. test (IsRequested k)) (whole_row rows t).asks (λ k. h (IsRequested k)) i

  -- facts of the row itself that pass a test
  pub ends_of_its_facts : each_ending rows t (λ f. ends_with rows t f && test f) ≡ each_ending rows t test
  ends_of_its_facts = λ i. members_of_it (λ x. test (IsSettled x)) (row (plain rows) t).past i && members_of_it (λ k. test (IsRequested k)) (whole_row rows t).asks i
