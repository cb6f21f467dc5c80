-- Tests, choices and members.
use Rattle.std.specs.Prelude.{IsSomeAnd}
use Rattle.std.proofs.Common.{◌≡◌, ℕ, ◌++◌, ◌⊎◌, inl, inr, Bool, true, false, if◌then◌else◌, Option, Some, None, List, [], ◌∷◌, refl, sym, ap, subst, nat_eq, is_some, eqb→eq, T}
use Rattle.std.proofs.lemmas.Bool.{or_left}
use Rattle.tpl_model.proofs.Truths.{true_false}
use Rattle.tpl_model.proofs.MemberLemmas.{mem_append, mem_left, mem_right, mem_split, mem_there, same_self}
use Rattle.tpl_model.specs.declared.finals.Final.{Final}
use Rattle.tpl_model.specs.declared.finals.Final.TheVariants.{RanToCompletion, Canceled, Faulted}
use Rattle.tpl_model.specs.Finals.{is_final}
use Rattle.tpl_model.specs.Members.{mem, joined}

pub if_true : {A : Type 0} (b : Bool) (x y : A) → b ≡ true → (if b then x else y) ≡ x
if_true true x y e = refl
if_true false x y e = true_false (sym e)

pub if_false : {A : Type 0} (b : Bool) (x y : A) → b ≡ false → (if b then x else y) ≡ y
if_false true x y e = true_false e
if_false false x y e = refl

pub some_none : {A B : Type 0} (x : A) → Some x ≡ None → B
some_none x e = absurd (cc)

pub is_some_of : {A : Type 0} (o : Option A) (x : A) → o ≡ Some x → is_some o ≡ true
is_some_of o x e = ap is_some e

pub the_some : {A : Type 0} (o : Option A) → is_some o ≡ true → (x : A) × (o ≡ Some x)
the_some (Some x) e = (x, refl)
the_some None e = true_false (sym e)

-- a value of which this holds, taken apart and put together
pub some_of : {A : Type 0} (o : Option A) (P : A → Type 0) → IsSomeAnd o P → (x : A) × (o ≡ Some x) × P x
some_of (Some x) P p = (x, refl, p)
some_of None P p = absurd p

pub some_and : {A : Type 0} (o : Option A) (P : A → Type 0) (x : A) → o ≡ Some x → P x → IsSomeAnd o P
some_and o P x e p = subst (λ z. IsSomeAnd z P) (sym e) p

pub same_number : (x y : ℕ) → nat_eq x y ≡ true → x ≡ y
same_number x y e = eqb→eq x y (subst T (sym e) tt)

pub final_same : (e f : Final) → is_final e f ≡ true → e ≡ f
final_same RanToCompletion RanToCompletion h = refl
final_same Canceled Canceled h = refl
final_same Faulted Faulted h = refl
final_same e f h = true_false (sym h)

pub final_self : (f : Final) → is_final f f ≡ true
final_self RanToCompletion = refl
final_self Canceled = refl
final_self Faulted = refl

pub mem_here : (x y : ℕ) (xs : List ℕ) → x ≡ y → mem x (y ∷ xs) ≡ true
mem_here x y xs e = or_left (nat_eq x y) (mem x xs) (subst (λ z. nat_eq x z ≡ true) e (same_self x))

-- what stands in a joined list
pub joined_keeps : (x : ℕ) (xs ys : List ℕ) → mem x xs ≡ true → mem x (joined xs ys) ≡ true
joined_keeps x xs [] e = e
joined_keeps x xs (y ∷ ys) e = joined_keeps x (if mem y xs then xs else (xs ++ y ∷ [])) ys (widen (mem y xs))
  where
    widen : (b : Bool) → mem x (if b then xs else (xs ++ y ∷ [])) ≡ true
    widen true = e
    widen false = mem_left x xs (y ∷ []) e

pub joined_adds : (x : ℕ) (xs ys : List ℕ) → mem x ys ≡ true → mem x (joined xs ys) ≡ true
joined_adds x xs [] e = true_false (sym e)
joined_adds x xs (y ∷ ys) e =
    elim (mem_split x y ys e) [
      | inl a ↦ joined_keeps x (if mem y xs then xs else (xs ++ y ∷ [])) ys (here (mem y xs) refl a)
      | inr b ↦ joined_adds x (if mem y xs then xs else (xs ++ y ∷ [])) ys b
    ]
  where
    here : (b : Bool) → mem y xs ≡ b → x ≡ y → mem x (if b then xs else (xs ++ y ∷ [])) ≡ true
    here true m a = subst (λ z. mem z xs ≡ true) (sym a) m
    here false m a = mem_right x xs (y ∷ []) (mem_here x y [] a)

pub joined_from : (x : ℕ) (xs ys : List ℕ) → mem x (joined xs ys) ≡ true → (mem x xs ≡ true) ⊎ (mem x ys ≡ true)
joined_from x xs [] e = inl e
joined_from x xs (y ∷ ys) e =
    elim (joined_from x (if mem y xs then xs else (xs ++ y ∷ [])) ys e) [
      | inl a ↦ back (mem y xs) a
      | inr b ↦ inr (mem_there x y ys b)
    ]
  where
    back : (b : Bool) → mem x (if b then xs else (xs ++ y ∷ [])) ≡ true → (mem x xs ≡ true) ⊎ (mem x (y ∷ ys) ≡ true)
    back true a = inl a
    back false a =
        elim (mem_append x xs (y ∷ []) a) [
          | inl c ↦ inl c
          | inr d ↦ elim (mem_split x y [] d) [ inl p ↦ inr (mem_here x y ys p) | inr q ↦ true_false (sym q) ]
        ]
