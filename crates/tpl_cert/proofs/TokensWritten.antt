-- The tokens of a set, written one after another.
use Rattle.std.proofs.Common.{◌≡◌, ℕ, suc, ◌+◌, ◌-◌, ◌<◌, ◌≤◌, List, [], ◌∷◌, ◌++◌, Bool, true, false, ◌&&◌, refl, sym, ◌∙◌, arith}
use Rattle.std.specs.List.{list_all}
use Rattle.json.specs.Token.{end_array}
use Rattle.json.specs.Written.{Written}
use Rattle.serde_json.specs.Data.{string}
use Rattle.tpl_model.specs.TaskSet.{passing_from}
use Rattle.tpl_cert.specs.declared.fault.TreeToFault.{TreeToFault}
use Rattle.tpl_cert.specs.declared.fault.TreeToFault.TheVariants as faults
use Rattle.tpl_cert.specs.Written.{name_at, is_id, PutsValue, Unwritten}
use Rattle.tpl_cert.proofs.Tokens.{names_left, one_less}

-- the numbers from k on below 32 that pass the test
abbrev pub left_from : (ℕ → Bool) → ℕ → List ℕ
left_from p k = passing_from p k (32 - k)

one_left : (p : ℕ → Bool) (k : ℕ) → k < 32 → left_from p k ≡ passing_from p k (suc (32 - (k + 1)))
one_left p k lt = let e : 32 - k ≡ suc (32 - (k + 1)) = omega arith in rw e refl

add_one : (k : ℕ) → k + 1 ≡ suc k
add_one k = omega arith

left_with : (p : ℕ → Bool) (k : ℕ) → k < 32 → p k ≡ true → left_from p k ≡ k ∷ left_from p (k + 1)
left_with p k lt e = rw (one_left p k lt, e, add_one k) refl

left_without : (p : ℕ → Bool) (k : ℕ) → k < 32 → p k ≡ false → left_from p k ≡ left_from p (k + 1)
left_without p k lt e = rw (one_left p k lt, e, add_one k) refl

-- what passes the test below k is written, and all of it is known
pub record AreTokensWritten (names : List (List ℕ)) (p : ℕ → Bool) (k : ℕ) (opened now : Written) : Type 0 where
  pub known : list_all (is_id names) (left_from p k) ≡ list_all (is_id names) (left_from p 0)
  pub before : now.before ≡ opened.before
  pub tokens : now.tokens ++ names_left names (left_from p k) ≡ opened.tokens ++ names_left names (left_from p 0)

pub none_written : (names : List (List ℕ)) (p : ℕ → Bool) (opened : Written) → AreTokensWritten names p 0 opened opened
none_written names p opened = record { known = refl; before = refl; tokens = refl }

pub token_written : (names : List (List ℕ)) (p : ℕ → Bool) (k : ℕ) (opened was now : Written) → k < 32 → p k ≡ true → is_id names k ≡ true → PutsValue (string (name_at names k)) was now
    → AreTokensWritten names p k opened was → AreTokensWritten names p (k + 1) opened now
token_written names p k opened was now lt has known puts so_far = record {
  known = sym (rw (left_with p k lt has, known) refl) ∙ so_far.known;
  before = puts.0 ∙ so_far.before;
  tokens = one_less was.tokens now.tokens _ _ _ puts.1 (rw (left_with p k lt has) at so_far.tokens);
}

pub token_left_out : (names : List (List ℕ)) (p : ℕ → Bool) (k : ℕ) (opened was : Written) → k < 32 → p k ≡ false → AreTokensWritten names p k opened was → AreTokensWritten names p (k + 1) opened was
token_left_out names p k opened was lt has so_far = record {
  known = rw (left_without p k lt has) at so_far.known;
  before = so_far.before;
  tokens = rw (left_without p k lt has) at so_far.tokens;
}

first_unknown : (b rest all : Bool) → (b && rest) ≡ all → b ≡ false → all ≡ false
first_unknown true rest all e h = absurd cc
first_unknown false rest all e h = sym e

pub token_unwritten : (names : List (List ℕ)) (p : ℕ → Bool) (k : ℕ) (opened was : Written) (e : TreeToFault) → k < 32 → p k ≡ true → Unwritten e (is_id names k) → AreTokensWritten names p k opened was → Unwritten e (list_all (is_id names) (left_from p 0))
token_unwritten names p k opened was faults.Memory lt has h so_far = tt
token_unwritten names p k opened was faults.Unknown lt has h so_far =
    first_unknown (is_id names k) (list_all (is_id names) (left_from p (k + 1))) _ (rw (left_with p k lt has) at so_far.known) h

no_more : (p : ℕ → Bool) (k : ℕ) → 32 ≤ k → left_from p k ≡ []
no_more p k le = let e : 32 - k ≡ 0 = omega arith in rw e refl

pub all_tokens_known : (names : List (List ℕ)) (p : ℕ → Bool) (k : ℕ) (opened now : Written) → 32 ≤ k → AreTokensWritten names p k opened now → list_all (is_id names) (left_from p 0) ≡ true
all_tokens_known names p k opened now le so_far = sym (rw (no_more p k le) at so_far.known)

pub all_tokens_written : (names : List (List ℕ)) (p : ℕ → Bool) (k : ℕ) (opened now : Written) → 32 ≤ k → AreTokensWritten names p k opened now → now.tokens ++ end_array ∷ [] ≡ opened.tokens ++ names_left names (left_from p 0)
all_tokens_written names p k opened now le so_far = rw (no_more p k le) at so_far.tokens
