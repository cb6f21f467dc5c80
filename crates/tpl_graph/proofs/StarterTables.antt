-- The loops that make the tables of starters, parents and attached children.
use Rattle.std.proofs.Common.{◌≡◌, ℕ, zero, suc, ◌+◌, ◌<◌, ◌≤◌, Bool, true, false, ◌++◌, List, [], ◌∷◌, length, map, take, drop, set, get_or, nat_eq, refl, sym, ap, ◌∙◌, subst, arith, append_assoc, append-nil, ⊎_elim, ◌⊎◌, inl, inr}
use Rattle.std.specs.Prelude.{filter, if◌then◌else◌, slice_get, Some}
use Rattle.std.proofs.lemmas.Bool.{cases_eq, eq-eqb, eqb-true}
use Rattle.std.proofs.lemmas.List.{drop_all, take_more, take_all, map-append, length-map, length-set, get_or-set_same, get_or-set_other, length-take-le}
use Rattle.std.specs.declared.vec.Vec.{Vec}
use Rattle.std.specs.declared.alloc.Global.{Global}
use Rattle.tpl_model.specs.declared.ids.TaskId.{TaskId}
use Rattle.tpl_draft.specs.declared.starter.Starter.{Starter}
use Rattle.tpl_draft.specs.declared.starter.Starter.TheVariants.{Nobody}
use Rattle.tpl_draft.specs.Ids.{task_number}
use Rattle.tpl_draft.specs.Refusals.{starters_in, starters_from}
use Rattle.tpl_graph.specs.Kept.{EachAt}
use Rattle.std.specs.Prelude.{Option}
use Rattle.tpl_graph.specs.Starters.{numbers, more, noted, parent_in}
use Rattle.tpl_draft.specs.Test.{starter_of}

noted-append : (c p : ℕ) (s : Starter) (xs ys : List ℕ) → noted c p s (xs ++ ys) ≡ noted c p (noted c p s xs) ys
noted-append c p s [] ys = refl
noted-append c p s (x ∷ xs) ys = noted-append c p (if nat_eq c x then more s p else s) xs ys

-- what one more start statement makes of the list of starters
more_is : (p : ℕ) (ps : List ℕ) → more (starter_of ps) p ≡ starter_of (ps ++ p ∷ [])
more_is p [] = refl
more_is p (q ∷ []) = refl
more_is p (q ∷ r ∷ ps) = refl

noted_is : (c p : ℕ) (ps xs : List ℕ) → noted c p (starter_of ps) xs ≡ starter_of (ps ++ starters_in c p xs)
noted_is c p ps [] = ap starter_of (sym (append-nil ps))
noted_is c p ps (x ∷ xs) = by (noted_is c p ps xs) (noted_is c p (ps ++ p ∷ []) xs) (nat_eq c x) refl
  where
    by : noted c p (starter_of ps) xs ≡ starter_of (ps ++ starters_in c p xs) → noted c p (starter_of (ps ++ p ∷ [])) xs ≡ starter_of ((ps ++ p ∷ []) ++ starters_in c p xs) → (b : Bool) → nat_eq c x ≡ b → noted c p (if nat_eq c x then more (starter_of ps) p else starter_of ps) xs ≡ starter_of (ps ++ (if nat_eq c x then p ∷ starters_in c p xs else starters_in c p xs))
    by same longer true is =
        ap (λ b. noted c p (if b then more (starter_of ps) p else starter_of ps) xs) is
        ∙ (ap (λ s. noted c p s xs) (more_is p ps)
        ∙ (longer
        ∙ (ap starter_of (append_assoc ps (p ∷ []) (starters_in c p xs))
        ∙ ap (λ b. starter_of (ps ++ (if b then p ∷ starters_in c p xs else starters_in c p xs))) (sym is))))
    by same longer false is =
        ap (λ b. noted c p (if b then more (starter_of ps) p else starter_of ps) xs) is
        ∙ (same ∙ ap (λ b. starter_of (ps ++ (if b then p ∷ starters_in c p xs else starters_in c p xs))) (sym is))

starters_from-append : (c q : ℕ) (lists : List (List ℕ)) (l : List ℕ) → starters_from c q (lists ++ l ∷ []) ≡ starters_from c q lists ++ starters_in c (q + length lists) l
starters_from-append c q [] l = let at : q + 0 ≡ q = omega arith in append-nil (starters_in c q l) ∙ ap (λ k. starters_in c k l) (sym at)
starters_from-append c q (x ∷ lists) l =
    let at : suc q + length lists ≡ q + suc (length lists) = omega arith in
    ap (λ r. starters_in c q x ++ r) (starters_from-append c (suc q) lists l)
    ∙ (sym (append_assoc (starters_in c q x) (starters_from c (suc q) lists) (starters_in c (suc q + length lists) l))
    ∙ ap (λ k. (starters_in c q x ++ starters_from c (suc q) lists) ++ starters_in c k l) at)

-- the table after the first start statements of a body
pub record NotedTo (start now : List Starter) (p : ℕ) (starts : List TaskId) (i : ℕ) : Type 0 where
  pub long : length now ≡ length start
  pub each : (t : ℕ) → t < length start → get_or now t Nobody ≡ noted t p (get_or start t Nobody) (map task_number (take i starts))

pub none_noted : (start : List Starter) (p : ℕ) (starts : List TaskId) → NotedTo start start p starts 0
none_noted start p starts = record { long = refl; each = λ t lt. refl }

noted_more : (t p : ℕ) (s : Starter) (starts : List TaskId) (i : ℕ) (c : TaskId) → i < length starts → c ≡ get_or starts i c → noted t p s (map task_number (take (i + 1) starts)) ≡ (if nat_eq t c.0 then more (noted t p s (map task_number (take i starts))) p else noted t p s (map task_number (take i starts)))
noted_more t p s starts i c lt is =
    ap (λ l. noted t p s (map task_number l)) (take_more starts i c lt ∙ ap (λ y. take i starts ++ y ∷ []) (sym is))
    ∙ (ap (noted t p s) (map-append task_number (take i starts) (c ∷ [])) ∙ noted-append t p s (map task_number (take i starts)) (c.0 ∷ []))

pub noted_here : (start now : List Starter) (p : ℕ) (starts : List TaskId) (i : ℕ) (c : TaskId) (s : Starter) → i < length starts → c ≡ get_or starts i c → NotedTo start now p starts i → c.0 < length now → s ≡ more (get_or now c.0 Nobody) p → NotedTo start (set now c.0 s) p starts (i + 1)
noted_here start now p starts i c s lt is at within made = record {
  long = length-set now c.0 s ∙ at.long;
  each = λ t below. ⊎_elim
      (λ same.
      ap (λ k. get_or (set now c.0 s) k Nobody) same
      ∙ (get_or-set_same now c.0 s Nobody within
      ∙ (made
      ∙ (ap (λ k. more (get_or now k Nobody) p) (sym same)
      ∙ (ap (λ x. more x p) (at.each t below)
      ∙ (ap (λ b. if b then more (noted t p (get_or start t Nobody) (map task_number (take i starts))) p else noted t p (get_or start t Nobody) (map task_number (take i starts))) (sym (eq-eqb t c.0 same))
      ∙ sym (noted_more t p (get_or start t Nobody) starts i c lt is)))))))
      (λ apart.
      get_or-set_other now c.0 t s Nobody apart
      ∙ (at.each t below
      ∙ (ap (λ b. if b then more (noted t p (get_or start t Nobody) (map task_number (take i starts))) p else noted t p (get_or start t Nobody) (map task_number (take i starts))) (sym (not_equal t c.0 apart))
      ∙ sym (noted_more t p (get_or start t Nobody) starts i c lt is))))
      (cases_eq t c.0);
}
  where
    not_equal : (a b : ℕ) → (a ≡ b → ⊥) → nat_eq a b ≡ false
    not_equal a b ne = by (nat_eq a b) refl
      where
        by : (x : Bool) → nat_eq a b ≡ x → nat_eq a b ≡ false
        by true e = absurd (ne (eqb-true a b e))
        by false e = e

pub noted_past : (start now : List Starter) (p : ℕ) (starts : List TaskId) (i : ℕ) (c : TaskId) → i < length starts → c ≡ get_or starts i c → NotedTo start now p starts i → length now ≤ c.0 → NotedTo start now p starts (i + 1)
noted_past start now p starts i c lt is at past = record {
  long = at.long;
  each = λ t below.
      at.each t below
      ∙ (ap (λ b. if b then more (noted t p (get_or start t Nobody) (map task_number (take i starts))) p else noted t p (get_or start t Nobody) (map task_number (take i starts))) (sym (not_same t below (nat_eq t c.0) refl))
      ∙ sym (noted_more t p (get_or start t Nobody) starts i c lt is));
}
  where
    not_same : (t : ℕ) → t < length start → (b : Bool) → nat_eq t c.0 ≡ b → nat_eq t c.0 ≡ false
    not_same t below true e = let same = eqb-true t c.0 e in let long = at.long in absurd (omega arith)
    not_same t below false e = e

pub all_noted : (start now : List Starter) (p : ℕ) (starts : List TaskId) (i : ℕ) → length starts ≤ i → NotedTo start now p starts i → (t : ℕ) → t < length start → get_or now t Nobody ≡ noted t p (get_or start t Nobody) (map task_number starts)
all_noted start now p starts i le at t lt = at.each t lt ∙ ap (λ l. noted t p (get_or start t Nobody) (map task_number l)) (take_all i starts le)

-- the table after the first bodies
pub record StartedTo (table : List Starter) (starts : List (Vec TaskId Global)) (p : ℕ) : Type 0 where
  pub long : length table ≡ length starts
  pub each : (t : ℕ) → t < length starts → get_or table t Nobody ≡ starter_of (starters_from t 0 (map numbers (take p starts)))

pub none_started : (table : List Starter) (starts : List (Vec TaskId Global)) → length table ≡ length starts → ((t : ℕ) → get_or table t Nobody ≡ Nobody) → StartedTo table starts 0
none_started table starts long each = record { long = long; each = λ t lt. each t }

pub one_started : (table new : List Starter) (starts : List (Vec TaskId Global)) (p : ℕ) (x : Vec TaskId Global) → p < length starts → x ≡ get_or starts p x → StartedTo table starts p → length new ≡ length table → ((t : ℕ) → t < length table → get_or new t Nobody ≡ noted t p (get_or table t Nobody) (numbers x)) → StartedTo new starts (p + 1)
one_started table new starts p x lt is at same each = record {
  long = same ∙ at.long;
  each = λ t below.
      let long = at.long in
      let count : length (map numbers (take p starts)) ≡ p = length-map (take p starts) numbers ∙ length-take-le p starts (omega arith) in
      let at_p : 0 + length (map numbers (take p starts)) ≡ p = omega arith in
      each t (omega arith)
      ∙ (ap (λ s. noted t p s (numbers x)) (at.each t below)
      ∙ (noted_is t p (starters_from t 0 (map numbers (take p starts))) (numbers x)
      ∙ (ap (λ k. starter_of (starters_from t 0 (map numbers (take p starts)) ++ starters_in t k (numbers x))) (sym at_p)
      ∙ (ap starter_of (sym (starters_from-append t 0 (map numbers (take p starts)) (numbers x)))
      ∙ ap (λ l. starter_of (starters_from t 0 l)) (sym (ap (map numbers) (take_more starts p x lt ∙ ap (λ y. take p starts ++ y ∷ []) (sym is)) ∙ map-append numbers (take p starts) (x ∷ [])))))));
}

pub all_started : (table : List Starter) (starts : List (Vec TaskId Global)) (p : ℕ) → length starts ≤ p → StartedTo table starts p → (t : ℕ) → t < length starts → get_or table t Nobody ≡ starter_of (starters_from t 0 (map numbers starts))
all_started table starts p le at t lt = at.each t lt ∙ ap (λ l. starter_of (starters_from t 0 (map numbers l))) (take_all p starts le)

-- one more element of a filtered list
pub filter-append : (p : ℕ → Bool) (xs ys : List ℕ) → filter p (xs ++ ys) ≡ filter p xs ++ filter p ys
filter-append p [] ys = refl
filter-append p (x ∷ xs) ys = by (filter-append p xs ys) (p x)
  where
    by : filter p (xs ++ ys) ≡ filter p xs ++ filter p ys → (b : Bool) → (if b then x ∷ filter p (xs ++ ys) else filter p (xs ++ ys)) ≡ (if b then x ∷ filter p xs else filter p xs) ++ filter p ys
    by rest true = ap (λ l. x ∷ l) rest
    by rest false = rest

pub none_pushed : (xs : List Starter) → ((t : ℕ) → get_or xs t Nobody ≡ Nobody) → (t : ℕ) → get_or (xs ++ Nobody ∷ []) t Nobody ≡ Nobody
none_pushed [] none zero = refl
none_pushed [] none (suc t) = refl
none_pushed (x ∷ xs) none zero = none zero
none_pushed (x ∷ xs) none (suc t) = none_pushed xs (λ k. none (suc k)) t

last_or_before : {A : Type 0} (xs : List A) (x y : A) (i : ℕ) → slice_get (xs ++ x ∷ []) i ≡ Some y → (slice_get xs i ≡ Some y) ⊎ ((i ≡ length xs) × (x ≡ y))
last_or_before [] x y zero at = inr (refl, cc)
last_or_before [] x y (suc i) at = absurd (cc)
last_or_before (z ∷ xs) x y zero at = inl at
last_or_before (z ∷ xs) x y (suc i) at = ⊎_elim (λ l. inl l) (λ r. inr (ap suc r.0, r.1)) (last_or_before xs x y i at)

-- one more element that fits its place
pub each_pushed : {A : Type 0} (fits : ℕ → A → Type 0) (xs : List A) (x : A) (n : ℕ) → length xs ≡ n → EachAt fits xs → fits n x → EachAt fits (xs ++ x ∷ [])
each_pushed fits xs x n long each here i y at = ⊎_elim
    (λ before. each i y before)
    (λ last. subst (λ k. fits k y) (sym (last.0 ∙ long)) (subst (fits n) last.1 here))
    (last_or_before xs x y i at)

pub parents_next : (table : List Starter) (made : List (Option TaskId)) (i : ℕ) (x : Starter) → i < length table → x ≡ get_or table i x → made ≡ map parent_in (take i table) → made ++ parent_in x ∷ [] ≡ map parent_in (take (i + 1) table)
parents_next table made i x lt is e =
    ap (λ l. l ++ parent_in x ∷ []) e
    ∙ (sym (map-append parent_in (take i table) (x ∷ [])) ∙ ap (map parent_in) (sym (take_more table i x lt ∙ ap (λ y. take i table ++ y ∷ []) (sym is))))

-- a table that is written back whole
pub whole_again : (len : ℕ) (new items : List Starter) → length new ≡ length items → len ≡ length items → take len (new ++ drop (length new) items) ≡ new
whole_again len new items same long =
    ap (λ l. take len (new ++ l)) (drop_all (length new) items (omega arith))
    ∙ (ap (take len) (append-nil new) ∙ take_all len new (omega arith))
