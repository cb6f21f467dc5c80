-- Tokens that are reached through links.
use Rattle.std.proofs.Common.{◌≡◌, ℕ, zero, suc, ◌+◌, ◌<◌, ◌≤◌, ◌||◌, ◌⊎◌, inl, inr, Bool, true, false, if◌then◌else◌, List, [], ◌∷◌, refl, sym, ap, ◌∙◌, subst, arith, length}
use Rattle.std.proofs.lemmas.Bool.{cases_lt, or_cases, or_left, or_right}
use Rattle.std.proofs.lemmas.List.{get_or_past}
use Rattle.tpl_model.proofs.MemberLemmas.{mem_there, mem_split}
use Rattle.tpl_model.proofs.Truths.{same_tests, true_false}
use Rattle.tpl_model.specs.Members.{mem}
use Rattle.tpl_model.specs.Graph.{TaskGraph, Plain, sources, sources_of, some_in, within, through}
use Rattle.tpl_laws.proofs.Basics.{mem_here}

-- one of the list is in a larger set too
pub some_more : (p q : ℕ → Bool) → ((k : ℕ) → p k ≡ true → q k ≡ true) → (ks : List ℕ) → some_in p ks ≡ true → some_in q ks ≡ true
some_more p q f [] e = e
some_more p q f (k ∷ ks) e =
    elim (or_cases (p k) (some_in p ks) e) [
      | inl a ↦ or_left (q k) (some_in q ks) (f k a)
      | inr b ↦ or_right (q k) (some_in q ks) (some_more p q f ks b)
    ]

pub some_at : (p : ℕ → Bool) (ks : List ℕ) (k : ℕ) → mem k ks ≡ true → p k ≡ true → some_in p ks ≡ true
some_at p [] k m e = m
some_at p (j ∷ ks) k m e =
    elim (mem_split k j ks m) [
      | inl a ↦ or_left (p j) (some_in p ks) (subst (λ z. p z ≡ true) a e)
      | inr b ↦ or_right (p j) (some_in p ks) (some_at p ks k b e)
    ]

pub some_one : (p : ℕ → Bool) (ks : List ℕ) → some_in p ks ≡ true → (k : ℕ) × (mem k ks ≡ true) × (p k ≡ true)
some_one p [] e = true_false (sym e)
some_one p (j ∷ ks) e =
    elim (or_cases (p j) (some_in p ks) e) [
      | inl a ↦ (j, mem_here j j ks refl, a)
      | inr b ↦ let w = some_one p ks b in (w.0, mem_there w.0 j ks w.1, w.2)
    ]

pub within_more : (g : TaskGraph) (p q : ℕ → Bool) → ((k : ℕ) → p k ≡ true → q k ≡ true) → (n k : ℕ) → within g p n k ≡ true → within g q n k ≡ true
within_more g p q f zero k e = f k e
within_more g p q f (suc n) k e =
    elim (or_cases (p k) (some_in (within g p n) (sources g k)) e) [
      | inl a ↦ or_left (q k) (some_in (within g q n) (sources g k)) (f k a)
      | inr b ↦ or_right (q k) (some_in (within g q n) (sources g k)) (some_more (within g p n) (within g q n) (within_more g p q f n) (sources g k) b)
    ]

-- more tokens reach a larger set
pub through_more : (g : TaskGraph) (p q : ℕ → Bool) → ((k : ℕ) → p k ≡ true → q k ≡ true) → (k : ℕ) → through g p k ≡ true → through g q k ≡ true
through_more g p q f k e = within_more g p q f (length g.tokens) k e

pub within_here : (g : TaskGraph) (p : ℕ → Bool) (n k : ℕ) → p k ≡ true → within g p n k ≡ true
within_here g p zero k e = e
within_here g p (suc n) k e = or_left (p k) (some_in (within g p n) (sources g k)) e

pub through_here : (g : TaskGraph) (p : ℕ → Bool) (k : ℕ) → p k ≡ true → through g p k ≡ true
through_here g p k e = within_here g p (length g.tokens) k e

-- one more link than n reaches nothing new
abbrev Stops : TaskGraph → (ℕ → Bool) → ℕ → Type 0
Stops g p n = (k : ℕ) → within g p (suc n) k ≡ true → within g p n k ≡ true

within_step : (g : TaskGraph) (p : ℕ → Bool) (n k : ℕ) → within g p n k ≡ true → within g p (suc n) k ≡ true
within_step g p zero k e = or_left (p k) (some_in p (sources g k)) e
within_step g p (suc n) k e =
    elim (or_cases (p k) (some_in (within g p n) (sources g k)) e) [
      | inl a ↦ or_left (p k) (some_in (within g p (suc n)) (sources g k)) a
      | inr b ↦ or_right (p k) (some_in (within g p (suc n)) (sources g k)) (some_more (within g p n) (within g p (suc n)) (within_step g p n) (sources g k) b)
    ]

-- how many numbers below m are in the set
abbrev how_many : (ℕ → Bool) → ℕ → ℕ
how_many p zero = 0
how_many p (suc m) = (if p m then 1 else 0) + how_many p m

digit_le : (b : Bool) → (if b then 1 else 0) ≤ 1
digit_le true = omega arith
digit_le false = omega arith

how_many_le : (p : ℕ → Bool) (m : ℕ) → how_many p m ≤ m
how_many_le p zero = omega arith
how_many_le p (suc m) = let a = digit_le (p m) in let b = how_many_le p m in omega arith

all_of : (p : ℕ → Bool) (m : ℕ) → m ≤ how_many p m → (k : ℕ) → k < m → p k ≡ true
all_of p zero e k l = absurd (omega arith)
all_of p (suc m) e k l = by_test (p m) refl (cases_lt k m) (λ a. all_of p m a k)
  where
    by_test : (b : Bool) → p m ≡ b → (k < m) ⊎ (m ≤ k) → (m ≤ how_many p m → k < m → p k ≡ true) → p k ≡ true
    by_test true q (inl a) old = old (let r = subst (λ z. suc m ≤ (if z then 1 else 0) + how_many p m) q e in omega arith) a
    by_test true q (inr a) old = let same : m ≡ k = omega arith in subst (λ z. p z ≡ true) same q
    by_test false q c old = absurd (let r = subst (λ z. suc m ≤ (if z then 1 else 0) + how_many p m) q e in let s = how_many_le p m in omega arith)

fewer : (p q : ℕ → Bool) → ((k : ℕ) → p k ≡ true → q k ≡ true) → (m : ℕ) → how_many p m ≤ how_many q m
fewer p q f zero = omega arith
fewer p q f (suc m) = by_test (p m) (q m) (f m) (fewer p q f m)
  where
    by_test : (a b : Bool) → (a ≡ true → b ≡ true) → how_many p m ≤ how_many q m → (if a then 1 else 0) + how_many p m ≤ (if b then 1 else 0) + how_many q m
    by_test true true i r = omega arith
    by_test true false i r = true_false (sym (i refl))
    by_test false true i r = omega arith
    by_test false false i r = omega arith

-- a larger set has the same numbers below m, or more of them
same_or_more : (p q : ℕ → Bool) → ((k : ℕ) → p k ≡ true → q k ≡ true) → (m : ℕ) → ((k : ℕ) → k < m → q k ≡ true → p k ≡ true) ⊎ (how_many p m < how_many q m)
same_or_more p q f zero = inl (λ k l e. absurd (omega arith))
same_or_more p q f (suc m) = by_test (p m) (q m) refl refl (f m) (fewer p q f m) (same_or_more p q f m)
  where
    extend : (q m ≡ true → p m ≡ true) → ((k : ℕ) → k < m → q k ≡ true → p k ≡ true) → (k : ℕ) → k < suc m → q k ≡ true → p k ≡ true
    extend t s k l e = elim (cases_lt k m) [ inl lt ↦ s k lt e | inr le ↦ let same : k ≡ m = omega arith in subst (λ z. q z ≡ true → p z ≡ true) (sym same) t e ]

    by_test : (a b : Bool) → p m ≡ a → q m ≡ b → (a ≡ true → b ≡ true) → how_many p m ≤ how_many q m → ((k : ℕ) → k < m → q k ≡ true → p k ≡ true) ⊎ (how_many p m < how_many q m)
        → ((k : ℕ) → k < suc m → q k ≡ true → p k ≡ true) ⊎ ((if a then 1 else 0) + how_many p m < (if b then 1 else 0) + how_many q m)
    by_test true b w x i r (inl s) = inl (extend (λ e. w) s)
    by_test true true w x i r (inr s) = inr (omega arith)
    by_test true false w x i r c = true_false (sym (i refl))
    by_test false true w x i r c = inr (omega arith)
    by_test false false w x i r (inl s) = inl (extend (λ e. true_false (sym e ∙ x)) s)
    by_test false false w x i r (inr s) = inr (omega arith)

-- a token that isn't the graph's has no sources
no_sources : (g : TaskGraph) (k : ℕ) → length g.tokens ≤ k → sources g k ≡ []
no_sources g k le = ap sources_of (get_or_past g.tokens k Plain le)

-- what reaches nothing new once stops
stops_next : (g : TaskGraph) (p : ℕ → Bool) (n : ℕ) → Stops g p n → Stops g p (suc n)
stops_next g p n s k e =
    elim (or_cases (p k) (some_in (within g p (suc n)) (sources g k)) e) [
      | inl a ↦ or_left (p k) (some_in (within g p n) (sources g k)) a
      | inr b ↦ or_right (p k) (some_in (within g p n) (sources g k)) (some_more (within g p (suc n)) (within g p n) s (sources g k) b)
    ]

stops_below : (g : TaskGraph) (p : ℕ → Bool) (n : ℕ) → ((k : ℕ) → k < length g.tokens → within g p (suc n) k ≡ true → within g p n k ≡ true) → Stops g p n
stops_below g p n s k e =
    elim (cases_lt k (length g.tokens)) [
      | inl lt ↦ s k lt e
      | inr le ↦
          elim (or_cases (p k) (some_in (within g p n) (sources g k)) e) [
            | inl a ↦ within_here g p n k a
            | inr b ↦ true_false (sym (subst (λ z. some_in (within g p n) z ≡ true) (no_sources g k le) b))
          ]
    ]

stops_or_many : (g : TaskGraph) (p : ℕ → Bool) (n : ℕ) → Stops g p n ⊎ (n ≤ how_many (within g p n) (length g.tokens))
stops_or_many g p zero = inr (omega arith)
stops_or_many g p (suc n) =
    elim (stops_or_many g p n) [
      | inl s ↦ inl (stops_next g p n s)
      | inr c ↦
          elim (same_or_more (within g p n) (within g p (suc n)) (within_step g p n) (length g.tokens)) [
            | inl s ↦ inl (stops_next g p n (stops_below g p n s))
            | inr more ↦ inr (omega arith)
          ]
    ]

-- as many links as there are tokens reach all
stops : (g : TaskGraph) (p : ℕ → Bool) → Stops g p (length g.tokens)
stops g p =
    elim (stops_or_many g p (length g.tokens)) [
      | inl s ↦ s
      | inr all ↦ stops_below g p (length g.tokens) (λ k lt e. all_of (within g p (length g.tokens)) (length g.tokens) all k lt)
    ]

-- a token with a source that reaches the set reaches it
pub through_source : (g : TaskGraph) (p : ℕ → Bool) (k s : ℕ) → mem s (sources g k) ≡ true → through g p s ≡ true → through g p k ≡ true
through_source g p k s m e = stops g p k (or_right (p k) (some_in (through g p) (sources g k)) (some_at (through g p) (sources g k) s m e))

-- a token reaches the set where it is in it or one of its sources reaches it
pub through_is : (g : TaskGraph) (p : ℕ → Bool) (k : ℕ) → through g p k ≡ p k || some_in (through g p) (sources g k)
through_is g p k = same_tests (through g p k) (p k || some_in (through g p) (sources g k)) (within_step g p (length g.tokens) k) (stops g p k)

within_twice : (g : TaskGraph) (p : ℕ → Bool) (n k : ℕ) → within g (through g p) n k ≡ true → through g p k ≡ true
within_twice g p zero k e = e
within_twice g p (suc n) k e =
    elim (or_cases (through g p k) (some_in (within g (through g p) n) (sources g k)) e) [
      | inl a ↦ a
      | inr b ↦ let w = some_one (within g (through g p) n) (sources g k) b in through_source g p k w.0 w.1 (within_twice g p n w.0 w.2)
    ]

-- what reaches what reaches the set reaches it
pub through_twice : (g : TaskGraph) (p : ℕ → Bool) (k : ℕ) → through g (through g p) k ≡ true → through g p k ≡ true
through_twice g p k e = within_twice g p (length g.tokens) k e
