-- The children of each task, one task later.
use Rattle.std.proofs.Common.{◌≡◌, ℕ, suc, ◌+◌, ◌<◌, ◌∙◌, Bool, true, false, List, [], ◌∷◌, ◌++◌, refl, ap, sym, subst, length, map, arith, nat_eq, slice_index_or, slice_set, replicate, if◌then◌else◌}
use Rattle.std.proofs.lemmas.Bool.{eq-eqb, eqb-true}
use Rattle.std.proofs.lemmas.List.{append-nil, get_or-set_same, get_or-set_other, get_or-map, get_or-replicate, length-map, length-replicate, length-set, map-set}
use Rattle.tpl_draft.proofs.Bools.{true_false}
use Rattle.tpl_model.specs.Members.{mem}
use Rattle.tpl_model.specs.Statements.{starts}
use Rattle.tpl_model.specs.Graph.{TaskGraph, IsParent, body, is_task}
use Rattle.tpl_model.specs.Valid.{IsGraph}
use Rattle.tpl_items.specs.Children.{children_below, AreChildrenBelow}

-- no task below 0 is a child
pub none_below : (g : TaskGraph) → AreChildrenBelow g 0 (replicate (length g.tasks) [])
none_below g = record { long = length-replicate (length g.tasks) []; each = λ p lt. get_or-replicate (length g.tasks) p [] [] lt }

with_last : (g : TaskGraph) (p n : ℕ) (b : Bool) → mem n (starts (body g p)) ≡ b → children_below g p (suc n) ≡ children_below g p n ++ (if b then n ∷ [] else [])
with_last g p n b is = ap (λ (c : Bool). children_below g p n ++ (if c then n ∷ [] else [])) is

unstarted : (g : TaskGraph) (p n : ℕ) (b : Bool) → mem n (starts (body g p)) ≡ b → (IsParent g p n → ⊥) → children_below g p (suc n) ≡ children_below g p n
unstarted g p n true is never = absurd (never is)
unstarted g p n false is never = with_last g p n false is ∙ append-nil (children_below g p n)

-- the parent of a task is a task
pub parent_is_task : (g : TaskGraph) (p n : ℕ) → IsGraph g → is_task g n → IsParent g p n → p < length g.tasks
parent_is_task g p n valid lt starts_it =
    let rules = valid.each n lt in
    let found = rules.parent (rules.child p starts_it) in
    let same = rules.one_parent p found.0 starts_it found.1 in
    let before = found.2 in
    omega (arith, same, before, lt)

-- a task that no body starts
pub none_more : (g : TaskGraph) (n : ℕ) (lists : List (List ℕ)) → ((p : ℕ) → IsParent g p n → ⊥) → AreChildrenBelow g n lists → AreChildrenBelow g (suc n) lists
none_more g n lists none was = record { long = was.long; each = λ p lt. was.each p lt ∙ sym (unstarted g p n (mem n (starts (body g p))) refl (none p)) }

-- a task that p's body starts
pub one_more : (g : TaskGraph) (n : ℕ) (lists : List (List ℕ)) (p : ℕ) → IsGraph g → is_task g n → IsParent g p n → AreChildrenBelow g n lists
    → AreChildrenBelow g (suc n) (slice_set lists p (slice_index_or lists p [] ++ n ∷ []))
one_more g n lists p valid lt starts_it was = record { long = length-set lists p longer ∙ was.long; each = λ q below. at q below (nat_eq q p) refl }
  where
    longer : List ℕ
    longer = slice_index_or lists p [] ++ n ∷ []

    there : p < length lists
    there = let a = parent_is_task g p n valid lt starts_it in let b = was.long in omega (arith, a, b)

    at : (q : ℕ) → q < length g.tasks → (b : Bool) → nat_eq q p ≡ b → slice_index_or (slice_set lists p longer) q [] ≡ children_below g q (suc n)
    at q below true is =
        subst (λ r. slice_index_or (slice_set lists p longer) r [] ≡ children_below g r (suc n)) (sym (eqb-true q p is))
        (get_or-set_same lists p longer [] there ∙ ap (λ l. l ++ n ∷ []) (was.each p (parent_is_task g p n valid lt starts_it)) ∙ sym (with_last g p n true starts_it))
    at q below false is =
        let differs : q ≡ p → ⊥ = λ same. true_false (nat_eq q p) (eq-eqb q p same) is in
        get_or-set_other lists p q longer [] differs ∙ was.each q below
        ∙ sym (unstarted g q n (mem n (starts (body g q))) refl (λ other. differs ((valid.each n lt).one_parent q p other starts_it)))

-- the list of p, once n was added to it
pub pushed : {L : Type 0} (lists : List L) (old new : L) (numbers : L → List ℕ) (g : TaskGraph) (n p : ℕ) → IsGraph g → is_task g n → IsParent g p n → AreChildrenBelow g n (map numbers lists)
    → old ≡ slice_index_or lists p old → numbers new ≡ numbers old ++ n ∷ [] → AreChildrenBelow g (n + 1) (map numbers (slice_set lists p new))
pushed lists old new numbers g n p valid lt starts_it was value longer =
    subst (λ m. AreChildrenBelow g m (map numbers (slice_set lists p new))) next
    (subst (AreChildrenBelow g (suc n)) (sym changed) (one_more g n (map numbers lists) p valid lt starts_it was))
  where
    next : suc n ≡ n + 1
    next = omega arith

    there : p < length lists
    there = let a = parent_is_task g p n valid lt starts_it in let b = was.long in let c = length-map lists numbers in omega (arith, a, b, c)

    before : slice_index_or (map numbers lists) p [] ≡ numbers old
    before = get_or-map numbers lists p old [] there ∙ ap numbers (sym value)

    changed : map numbers (slice_set lists p new) ≡ slice_set (map numbers lists) p (slice_index_or (map numbers lists) p [] ++ n ∷ [])
    changed = map-set numbers lists p new ∙ ap (slice_set (map numbers lists) p) (longer ∙ ap (λ l. l ++ n ∷ []) (sym before))

-- a task that no body starts, among one more
pub passed : (g : TaskGraph) (n : ℕ) (lists : List (List ℕ)) → ((p : ℕ) → IsParent g p n → ⊥) → AreChildrenBelow g n lists → AreChildrenBelow g (n + 1) lists
passed g n lists none was = let e : suc n ≡ n + 1 = omega arith in subst (λ m. AreChildrenBelow g m lists) e (none_more g n lists none was)
