-- Tokens that are requested with others, in one pass.
use Rattle.std.proofs.Common.{◌≡◌, ◌≢◌, ℕ, ◌+◌, ◌<◌, ◌≤◌, ◌&&◌, ◌||◌, inl, inr, true, false, List, [], ◌∷◌, sym, ap, ◌∙◌, subst, nat_eq, nat_lt, length, arith}
use Rattle.std.proofs.lemmas.Bool.{cases_lt, cases_eq, lt-ltb, le-ltb}
use Rattle.std.proofs.lemmas.List.{get_or_past}
use Rattle.tpl_model.proofs.MemberLemmas.{not_same, same_self}
use Rattle.tpl_model.proofs.Truths.{true_false}
use Rattle.tpl_model.specs.Members.{mem}
use Rattle.tpl_paths.specs.declared.token_set.TokenSet.{TokenSet}
use Rattle.tpl_paths.specs.TokenSet.{has_token}
use Rattle.tpl_model.specs.Graph.{TaskGraph, Token, Plain, Linked, token, sources, sources_of, some_in, through}
use Rattle.tpl_model.specs.Valid.{AreBefore, IsLinked, IsGraph}
use Rattle.tpl_model.specs.TokenRules.{linked}
use Rattle.tpl_checker.proofs.Basics.{some_in_same}
use Rattle.tpl_laws.proofs.Sources.{through_is}

-- of the first n tokens those that are requested with k
pub record LinkedSoFar (g : TaskGraph) (k n : ℕ) (found : TokenSet) : Type 0 where
  pub members : (j : ℕ) → has_token found j ≡ (nat_lt j n && linked g k j)

before_it : (k : ℕ) (xs : List ℕ) → AreBefore k xs → (x : ℕ) → mem x xs ≡ true → x < k
before_it k [] a x m = true_false (sym m)
before_it k (y ∷ ys) a x m = elim (cases_eq x y) [
  | inl same ↦ subst (λ z. z < k) (sym same) a.0
  | inr apart ↦ before_it k ys a.1 x (sym (ap (λ b. b || mem x ys) (not_same x y apart)) ∙ m)
]

source_before : (k : ℕ) (t : Token) → IsLinked k t → (x : ℕ) → mem x (sources_of t) ≡ true → x < k
source_before k Plain a x m = true_false (sym m)
source_before k (Linked xs) a x m = before_it k xs a.0 x m

-- at the next token
pub links_here : (g : TaskGraph) (k n : ℕ) (found : TokenSet) → IsGraph g → n < length g.tokens → LinkedSoFar g k n found → (nat_eq k n || some_in (has_token found) (sources g n)) ≡ linked g k n
links_here g k n found valid lt s =
    ap (λ z. nat_eq k n || z)
    (some_in_same (has_token found) (linked g k) (sources g n)
    (λ x m. s.members x ∙ ap (λ z. z && linked g k x) (lt-ltb x n (source_before n (token g n) (valid.links n lt) x m))))
    ∙ sym (through_is g (nat_eq k) n)

one_more : (j n : ℕ) → j ≢ n → nat_lt j (n + 1) ≡ nat_lt j n
one_more j n apart = elim (cases_lt j n) [
  | inl lt ↦ lt-ltb j (n + 1) (omega arith) ∙ sym (lt-ltb j n lt)
  | inr ge ↦ le-ltb j (n + 1) (omega arith) ∙ sym (le-ltb j n ge)
]

pub with_this : (g : TaskGraph) (k n : ℕ) (found next : TokenSet) → LinkedSoFar g k n found → linked g k n ≡ true → ((j : ℕ) → has_token next j ≡ (nat_eq j n || has_token found j)) → LinkedSoFar g k (n + 1) next
with_this g k n found next s e h = record {
  members = λ j. elim (cases_eq j n) [
    | inl same ↦
        h j ∙ (ap (λ z. nat_eq j z || has_token found j) (sym same) ∙ (ap (λ z. z || has_token found j) (same_self j)
        ∙ sym (ap (λ z. z && linked g k j) (lt-ltb j (n + 1) (omega arith)) ∙ (ap (linked g k) same ∙ e))))
    | inr apart ↦ h j ∙ (ap (λ z. z || has_token found j) (not_same j n apart) ∙ (s.members j ∙ ap (λ z. z && linked g k j) (sym (one_more j n apart))))
  ];
}

pub without_this : (g : TaskGraph) (k n : ℕ) (found : TokenSet) → LinkedSoFar g k n found → linked g k n ≡ false → LinkedSoFar g k (n + 1) found
without_this g k n found s e = record {
  members = λ j. elim (cases_eq j n) [
    | inl same ↦
        s.members j ∙ (ap (λ z. z && linked g k j) (le-ltb j n (omega arith)) ∙ sym (ap (λ z. z && linked g k j) (lt-ltb j (n + 1) (omega arith)) ∙ (ap (linked g k) same ∙ e)))
    | inr apart ↦ s.members j ∙ ap (λ z. z && linked g k j) (sym (one_more j n apart))
  ];
}

-- past the last token nothing is requested with one of the graph's
pub links_past : (g : TaskGraph) (k j : ℕ) → k < length g.tokens → length g.tokens ≤ j → linked g k j ≡ false
links_past g k j lt le =
    through_is g (nat_eq k) j
    ∙ (ap (λ (xs : List ℕ). nat_eq k j || some_in (through g (nat_eq k)) xs) (ap sources_of (get_or_past g.tokens j Plain le)) ∙ (ap (λ z. z || false) (not_same k j (λ e. absurd (omega arith)))))

pub all_links : (g : TaskGraph) (k n : ℕ) (found : TokenSet) → k < length g.tokens → n ≡ length g.tokens → LinkedSoFar g k n found → (j : ℕ) → has_token found j ≡ linked g k j
all_links g k n found lt all s j = elim (cases_lt j n) [
  | inl inside ↦ s.members j ∙ ap (λ z. z && linked g k j) (lt-ltb j n inside)
  | inr past ↦ s.members j ∙ (ap (λ z. z && linked g k j) (le-ltb j n past) ∙ sym (links_past g k j lt (omega arith)))
]
