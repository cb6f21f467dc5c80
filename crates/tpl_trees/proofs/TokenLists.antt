-- Sets of tokens as lists.
use Rattle.std.proofs.Common.{◌≡◌, ℕ, zero, suc, ◌≤◌, List, [], ◌∷◌, Bool, inl, inr, true, false, if◌then◌else◌, refl, sym, ap, ◌∙◌, arith}
use Rattle.std.proofs.lemmas.Bool.{cases_Bool, cases_lt}
use Rattle.tpl_model.proofs.SetLists.{mem-passing_from, passing_from-mem}
use Rattle.tpl_model.proofs.Truths.{same_tests, true_false}
use Rattle.tpl_model.specs.Members.{mem}
use Rattle.tpl_model.specs.TaskSet.{passing_from}
use Rattle.tpl_paths.specs.declared.token_set.TokenSet.{TokenSet}
use Rattle.tpl_paths.proofs.TokenBits.{none_set}
use Rattle.tpl_paths.specs.TokenSet.{has_token, no_tokens}
use Rattle.tpl_trees.specs.Coding.{tokens_in}
use Rattle.tpl_trees.specs.Sets.{as_set, IsSet}

passing_same : (p q : ℕ → Bool) (low n : ℕ) → ((x : ℕ) → p x ≡ q x) → passing_from p low n ≡ passing_from q low n
passing_same p q low zero same = refl
passing_same p q low (suc n) same = rw (same low, passing_same p q (suc low) n same) refl

-- a set of tokens with these members
pub tokens_are : (ns : List ℕ) (set : TokenSet) → ((k : ℕ) → has_token set k ≡ mem k ns) → as_set 32 ns ≡ tokens_in set
unfolding tokens_in
tokens_are ns set same = sym (passing_same (has_token set) (λ k. mem k ns) 0 32 same)

pub mem-tokens_in : (s : TokenSet) → ((k : ℕ) → 32 ≤ k → has_token s k ≡ false) → (k : ℕ) → mem k (tokens_in s) ≡ has_token s k
unfolding tokens_in
mem-tokens_in s limit k =
    same_tests (mem k (tokens_in s)) (has_token s k) (mem-passing_from (has_token s) 0 32 k)
    (λ h. elim (cases_lt k 32) [ inl lt ↦ passing_from-mem (has_token s) 0 32 k (omega arith) (omega arith) h | inr le ↦ true_false (sym h ∙ limit k le) ])

pub token_set : (s : TokenSet) → ((k : ℕ) → 32 ≤ k → has_token s k ≡ false) → IsSet 32 (tokens_in s)
unfolding IsSet
token_set s limit = tokens_are (tokens_in s) s (λ k. sym (mem-tokens_in s limit k))

none_passing : (test : ℕ → Bool) → ((x : ℕ) → test x ≡ false) → (low n : ℕ) → passing_from test low n ≡ []
none_passing test none low zero = refl
none_passing test none low (suc n) = ap (λ b. if b then (low ∷ passing_from test (suc low) n) else passing_from test (suc low) n) (none low) ∙ none_passing test none (suc low) n

pub no_tokens_in : tokens_in no_tokens ≡ []
unfolding tokens_in
no_tokens_in = none_passing (has_token no_tokens) none_set 0 32

-- a set of tokens within the empty one
pub none_within : (s none : TokenSet) → none ≡ no_tokens → ((k : ℕ) → has_token s k ≡ true → has_token none k ≡ true) → tokens_in s ≡ []
unfolding tokens_in
none_within s none e within =
    none_passing (has_token s) (λ k. elim (cases_Bool (has_token s k)) [ inl has ↦ true_false (sym (within k has) ∙ (ap (λ z. has_token z k) e ∙ none_set k)) | inr q ↦ q ]) 0 32

pub within_none : (s none : TokenSet) → ((k : ℕ) → 32 ≤ k → has_token s k ≡ false) → tokens_in s ≡ [] → (k : ℕ) → has_token s k ≡ true → has_token none k ≡ true
within_none s none limit e k has = true_false (sym has ∙ (sym (mem-tokens_in s limit k) ∙ ap (mem k) e))
