-- Lists of tasks, joined.
use Rattle.std.proofs.Common.{◌≡◌, ℕ, ◌<◌, ◌≤◌, ◌++◌, Bool, true, false, ◌||◌, List, [], ◌∷◌, drop, length, map, nat_eq, refl, sym, ap, ◌∙◌, arith, subst}
use Rattle.std.specs.Prelude.{vec_capacity}
use Rattle.std.specs.List.{list_any}
use Rattle.std.specs.declared.vec.Vec.{Vec}
use Rattle.std.specs.declared.alloc.Global.{Global}
use Rattle.std.proofs.lemmas.Map.Steps.{length-le_from_distinct_below}
use Rattle.std.proofs.lemmas.Map.Keys.{IsDistinct-push}
use Rattle.std.specs.Cmp.{nat_eq_equiv}
use Rattle.std.proofs.lemmas.List.{length-append, length-map, map-append}
use Rattle.std.proofs.Common.{inl, inr}
use Rattle.tpl_model.proofs.MemberLemmas.{mem_append, mem_split}
use Rattle.tpl_model.specs.declared.ids.TaskId.{TaskId}
use Rattle.tpl_model.specs.Members.{mem, joined}
use Rattle.tpl_draft.specs.Ids.{task_number}
use Rattle.tpl_run.specs.Atoms.{AreAtoms}
use Rattle.tpl_machine.specs.Gathering.{IsBeside}
use Rattle.tpl_run.proofs.AtomLemmas.{empty_atoms}

-- the first i of the others are in the list
pub record JoinedSoFar (first now : Vec TaskId Global) (members : List ℕ) (more : List TaskId) (i : ℕ) : Type 0 where
  pub joins : joined (map task_number now.items) (map task_number (drop i more)) ≡ joined (map task_number first.items) (map task_number more)
  pub beside : IsBeside members now
  pub capacity : vec_capacity now ≡ vec_capacity first

mem-any : (x : ℕ) (xs : List ℕ) → mem x xs ≡ list_any (nat_eq x) xs
mem-any x [] = refl
mem-any x (y ∷ xs) = ap (λ b. nat_eq x y || b) (mem-any x xs)

pub atoms_room : (n : ℕ) (xs : List ℕ) → AreAtoms n xs → length xs ≤ n
atoms_room n xs a = length-le_from_distinct_below xs n a.once (λ q e. a.below q (mem-any q xs ∙ e))

pub atoms_push : (n : ℕ) (xs : List ℕ) (x : ℕ) → AreAtoms n xs → x < n → mem x xs ≡ false → AreAtoms n (xs ++ x ∷ [])
atoms_push n xs x a lt out = record {
  below = λ y e. elim (mem_append y xs (x ∷ []) e) [
    | inl p ↦ a.below y p
    | inr p ↦ elim (mem_split y x [] p) [ inl q ↦ subst (λ z. z < n) (sym q) lt | inr q ↦ cc ]
  ];
  once = IsDistinct-push nat_eq_equiv xs x a.once (sym (mem-any x xs) ∙ out);
}

pub atoms_more : (n : ℕ) (ts : List TaskId) (x : ℕ) → AreAtoms n (map task_number ts) → x < n → mem x (map task_number ts) ≡ false → length ts < n
atoms_more n ts x a lt out =
    omega (arith, atoms_room n (map task_number ts ++ x ∷ []) (atoms_push n (map task_number ts) x a lt out), length-append (map task_number ts) (x ∷ []), length-map ts task_number)

pub atoms_pushed : (n : ℕ) (ts ts' : List TaskId) (t : TaskId) → ts' ≡ ts ++ t ∷ [] → AreAtoms n (map task_number ts) → t.0 < n → mem t.0 (map task_number ts) ≡ false → AreAtoms n (map task_number ts')
atoms_pushed n ts ts' t is a lt out =
    subst (λ xs. AreAtoms n xs) (sym (ap (map task_number) is ∙ map-append task_number ts (t ∷ []))) (atoms_push n (map task_number ts) t.0 a lt out)

pub one_atom : (n : ℕ) (ts ts' : List TaskId) (t : TaskId) → ts' ≡ ts ++ t ∷ [] → ts ≡ [] → t.0 < n → AreAtoms n (map task_number ts')
one_atom n ts ts' t is none lt = atoms_pushed n ts ts' t is (empty_atoms n ts none) lt (ap (λ xs. mem t.0 (map task_number xs)) none)

mem_push : (x y : ℕ) (xs : List ℕ) → mem x (xs ++ y ∷ []) ≡ (nat_eq x y || mem x xs)
mem_push x y [] = refl
mem_push x y (z ∷ xs) = ap (λ b. nat_eq x z || b) (mem_push x y xs) ∙ turned (nat_eq x z) (nat_eq x y) (mem x xs)
  where
    turned : (a b c : Bool) → (a || (b || c)) ≡ (b || (a || c))
    turned true true c = refl
    turned true false c = refl
    turned false b c = refl

pub beside_pushed : (members members' : List ℕ) (list list' : Vec TaskId Global) (t : TaskId) → IsBeside members list → t.0 < vec_capacity list → mem t.0 (map task_number list.items) ≡ false → ((x : ℕ) → mem x members' ≡ (nat_eq x t.0 || mem x members)) → list'.items ≡ list.items ++ t ∷ [] → vec_capacity list' ≡ vec_capacity list → IsBeside members' list'
beside_pushed members members' list list' t beside lt out more is capacity = record {
  atoms = subst (λ n. AreAtoms n (map task_number list'.items)) (sym capacity) (atoms_pushed (vec_capacity list) list.items list'.items t is beside.atoms lt out);
  limit = omega (arith, capacity, beside.limit);
  same = λ x. more x ∙ (ap (λ b. nat_eq x t.0 || b) (beside.same x) ∙ (sym (mem_push x t.0 (map task_number list.items)) ∙ ap (mem x) (sym (ap (map task_number) is ∙ map-append task_number list.items (t ∷ [])))));
}
