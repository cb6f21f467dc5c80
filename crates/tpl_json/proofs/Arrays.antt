-- Reading the members of an object and the elements of an array one after another.
use Rattle.std.proofs.Common.{◌≡◌, ℕ, zero, suc, ◌+◌, ◌<◌, List, [], ◌∷◌, ◌++◌, length, get_or, take, Option, Some, None, map, refl, ap, ◌∙◌, arith}
use Rattle.std.proofs.lemmas.List.{map_more}
use Rattle.serde_json.specs.Data.{Data}
use Rattle.serde_json.specs.View.{items_of}
use Rattle.tpl_json.specs.Members.{elements, each, ◌>>=◌, Misses}
use Rattle.tpl_json.specs.declared.miss.Miss.{Miss}
use Rattle.tpl_json.specs.declared.miss.Shape.{Shape}
use Rattle.tpl_json.specs.declared.miss.Miss.TheVariants as misses

pub elements-items_of : (ds : List Data) → elements (items_of ds) ≡ ds
elements-items_of [] = refl
elements-items_of (d ∷ ds) = ap (λ (xs : List Data). d ∷ xs) (elements-items_of ds)

-- the value of a step that did not fail
pub bind_some : {A B : Type 0} (o : Option A) (f : A → Option B) (y : B) → (o >>= f) ≡ Some y → (x : A) × (o ≡ Some x) × (f x ≡ Some y)
bind_some (Some x) f y e = (x, refl, e)
bind_some None f y e = absurd cc

abbrev found : {A : Type 0} → A → Option A
found x = Some x

pub some_is : {A : Type 0} (x y : A) → found x ≡ found y → x ≡ y
some_is x y e = cc

-- the elements, one by one
pub each_cons : {A : Type 0} (f : Data → Option A) (c : Data) (ds : List Data) (x : A) (xs : List A) → f c ≡ Some x → each f ds ≡ Some xs → each f (c ∷ ds) ≡ Some (x ∷ xs)
unfolding each
each_cons f c ds x xs h e = rw (h, e) refl

pub record Parts {A : Type 0} (f : Data → Option A) (c : Data) (ds : List Data) (all : List A) : Type 0 where
  pub first : A
  pub rest : List A
  pub whole : first ∷ rest ≡ all
  pub is_first : f c ≡ Some first
  pub is_rest : each f ds ≡ Some rest

pub each_parts : {A : Type 0} (f : Data → Option A) (c : Data) (ds : List Data) (xs : List A) → each f (c ∷ ds) ≡ Some xs → Parts f c ds xs
unfolding each
each_parts f c ds xs e =
    let a = bind_some (f c) (λ y. each f ds >>= λ ys. Some (y ∷ ys)) xs e in
    let b = bind_some (each f ds) (λ ys. Some (a.0 ∷ ys)) xs a.2 in
    record { first = a.0; rest = b.0; whole = some_is (a.0 ∷ b.0) xs b.2; is_first = a.1; is_rest = b.1 }

pub each_nothing : {A : Type 0} (f : Data → Option A) (xs : List A) → each f [] ≡ Some xs → [] ≡ xs
unfolding each
each_nothing f xs e = some_is [] xs e

pub each_empty : {A : Type 0} (f : Data → Option A) → each f [] ≡ Some []
unfolding each
each_empty f = refl

-- one element more
pub each_one : {A : Type 0} (f : Data → Option A) (ds : List Data) (xs : List A) (d : Data) (x : A) → each f ds ≡ Some xs → f d ≡ Some x → each f (ds ++ d ∷ []) ≡ Some (xs ++ x ∷ [])
each_one {A = A} f [] xs d x e h =
    each_cons f d [] x [] h (each_empty f) ∙ ap (λ (ys : List A). found (ys ++ x ∷ [])) (each_nothing f xs e)
each_one {A = A} f (c ∷ ds) xs d x e h =
    let p = each_parts f c ds xs e in
    each_cons f c (ds ++ d ∷ []) p.first (p.rest ++ x ∷ []) p.is_first (each_one f ds p.rest d x p.is_rest h) ∙ ap (λ (ys : List A). found (ys ++ x ∷ [])) p.whole

pub each_more : {X A : Type 0} (g : X → Data) (f : Data → Option A) (ds : List X) (i : ℕ) (d : X) (xs : List A) (x : A) → i < length ds → each f (map g (take i ds)) ≡ Some xs → f (g (get_or ds i d)) ≡ Some x → each f (map g (take (i + 1) ds)) ≡ Some (xs ++ x ∷ [])
each_more g f ds i d xs x lt e h = rw (map_more g ds i d lt) (each_one f (map g (take i ds)) xs (g (get_or ds i d)) x e h)

bind_none : {A B : Type 0} (o : Option A) (f : A → Option B) → ((x : A) → f x ≡ None) → (o >>= f) ≡ None
bind_none (Some x) f h = h x
bind_none None f h = refl

-- an element that is refused
pub each_stops : {X A : Type 0} (g : X → Data) (f : Data → Option A) (ds : List X) (i : ℕ) (d : X) → i < length ds → f (g (get_or ds i d)) ≡ None → each f (map g ds) ≡ None
unfolding each
each_stops g f [] i d lt h = absurd (omega arith)
each_stops g f (c ∷ ds) zero d lt h = rw h refl
each_stops g f (c ∷ ds) (suc i) d lt h = bind_none (f (g c)) (λ y. each f (map g ds) >>= λ ys. Some (y ∷ ys)) (λ y. rw (each_stops g f ds i d (omega arith) h) refl)

-- the exit of a loop at such an element
pub misses_each : {X A : Type 0} (g : X → Data) (f : Data → Option A) (ds : List X) (i : ℕ) (x : X) (e : Miss Shape) → i < length ds → x ≡ get_or ds i x → Misses e (f (g x)) → Misses e (each f (map g ds))
misses_each g f ds i x misses.Memory lt is h = tt
misses_each g f ds i x (misses.Wrong shape) lt is h = each_stops g f ds i x lt (rw (← is) h)

-- what two lists that are the same begin with, and go on with
pub head_is : {A : Type 0} (x y : A) (xs ys : List A) → x ∷ xs ≡ y ∷ ys → x ≡ y
head_is x y xs ys e = cc

pub tail_is : {A : Type 0} (x y : A) (xs ys : List A) → x ∷ xs ≡ y ∷ ys → xs ≡ ys
tail_is x y xs ys e = cc
