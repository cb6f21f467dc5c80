-- Rows, and facts by their cases.
use Rattle.std.proofs.Common.{◌≡◌, ℕ, ◌&&◌, Bool, true, List, sym, ◌∙◌}
use Rattle.tpl_model.proofs.Truths.{same_tests, and_first, and_second}
use Rattle.std.proofs.lemmas.Bool.{and_from}
use Rattle.tpl_model.specs.Members.{mem}
use Rattle.tpl_model.specs.Knowledge.{Fact, IsSettled, IsRequested}
use Rattle.tpl_laws.specs.RowTests.{all_in}
use Rattle.tpl_laws.proofs.Deciding.{of_all, itself}

pub by_fact : (P : Fact → Type 0) → ((x : ℕ) → P (IsSettled x)) → ((k : ℕ) → P (IsRequested k)) → (f : Fact) → P f
by_fact P a b (IsSettled x) = a x
by_fact P a b (IsRequested k) = b k

-- each of the facts of a row passes a test just where each is one of a limit's, whose facts are those that pass it
pub facts_test : (r : Bool) (xs ks : List ℕ) (own limit test : Fact → Bool) → (r ≡ true → (f : Fact) → own f ≡ true → limit f ≡ true) → (((f : Fact) → own f ≡ true → limit f ≡ true) → r ≡ true)
    → ((x : ℕ) → own (IsSettled x) ≡ mem x xs) → ((k : ℕ) → own (IsRequested k) ≡ mem k ks) → ((f : Fact) → limit f ≡ test f) → r ≡ (all_in (λ x. test (IsSettled x)) xs && all_in (λ k. test (IsRequested k)) ks)
facts_test r xs ks own limit test to back tasks tokens same =
    same_tests r (all_in (λ x. test (IsSettled x)) xs && all_in (λ k. test (IsRequested k)) ks)
    (λ e. and_from (all_in (λ x. test (IsSettled x)) xs) (all_in (λ k. test (IsRequested k)) ks)
    (all_tasks.1 (λ x m. sym (same (IsSettled x)) ∙ to e (IsSettled x) (tasks x ∙ m)))
    (all_tokens.1 (λ k m. sym (same (IsRequested k)) ∙ to e (IsRequested k) (tokens k ∙ m))))
    (λ e. back (by_fact (λ f. own f ≡ true → limit f ≡ true)
    (λ x o. same (IsSettled x) ∙ all_tasks.0 (and_first (all_in (λ y. test (IsSettled y)) xs) (all_in (λ k. test (IsRequested k)) ks) e) x (sym (tasks x) ∙ o))
    (λ k o. same (IsRequested k) ∙ all_tokens.0 (and_second (all_in (λ x. test (IsSettled x)) xs) (all_in (λ j. test (IsRequested j)) ks) e) k (sym (tokens k) ∙ o))))
  where
    all_tasks : (all_in (λ x. test (IsSettled x)) xs ≡ true → (x : ℕ) → mem x xs ≡ true → test (IsSettled x) ≡ true) × (((x : ℕ) → mem x xs ≡ true → test (IsSettled x) ≡ true) → all_in (λ x. test (IsSettled x)) xs ≡ true)
    all_tasks = of_all (λ x. test (IsSettled x) ≡ true) (λ x. test (IsSettled x)) xs (λ x. itself (test (IsSettled x)))

    all_tokens : (all_in (λ k. test (IsRequested k)) ks ≡ true → (k : ℕ) → mem k ks ≡ true → test (IsRequested k) ≡ true) × (((k : ℕ) → mem k ks ≡ true → test (IsRequested k) ≡ true) → all_in (λ k. test (IsRequested k)) ks ≡ true)
    all_tokens = of_all (λ k. test (IsRequested k) ≡ true) (λ k. test (IsRequested k)) ks (λ k. itself (test (IsRequested k)))
