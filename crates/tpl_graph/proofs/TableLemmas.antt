-- The loops over the tasks that make the tables of labels and sites.
use Rattle.std.proofs.Common.{◌≡◌, ℕ, suc, ◌+◌, ◌<◌, ◌≤◌, Bool, true, false, ◌||◌, ◌++◌, List, [], ◌∷◌, length, take, get_or, map, flat_map, refl, sym, ap, ◌∙◌, append-nil, add-one, arith}
use Rattle.std.proofs.lemmas.List.{take_more, take_all, length-map, get_or-map}
use Rattle.std.specs.Prelude.{Some}
use Rattle.tpl_draft.specs.declared.sort.Sort.{Sort}
use Rattle.tpl_draft.specs.declared.sort.Sort.TheVariants.{Sites}
use Rattle.tpl_draft.specs.declared.draft.DraftTask.{DraftTask}
use Rattle.tpl_draft.specs.declared.draft.Draft as declared
use Rattle.tpl_draft.specs.declared.fault.Why.TheVariants as why
use Rattle.tpl_draft.specs.Draft.{Task, statements_in}
use Rattle.tpl_draft.specs.SeenTasks.{task_of, draft_of}
use Rattle.tpl_draft.specs.Names.{with_names, twice_after, some_twice}
use Rattle.tpl_draft.specs.Numbered.{names_in, all_named, sites_of}
use Rattle.tpl_draft.specs.Refusals.{applies, IsFirst}
use Rattle.tpl_graph.proofs.CollectLemmas.{flat_map_append, with_names-append, twice_after-append}
use Rattle.tpl_draft.proofs.FirstLemmas.{NoneUpTo, none_at_first, none_at_next, applies_at}

-- a flat list of parts, one task further
pub flat_next : {B : Type 0} (f : Task → List B) (items : List DraftTask) (t : ℕ) (x : DraftTask) → t < length items → x ≡ get_or items t x → flat_map f (take (suc t) (map task_of items)) ≡ flat_map f (take t (map task_of items)) ++ f (task_of x)
flat_next f items t x lt is =
    let within : t < length (map task_of items) = omega (arith, length-map items task_of) in
    let here : get_or (map task_of items) t (task_of x) ≡ task_of x = get_or-map task_of items t x (task_of x) lt ∙ ap task_of (sym is) in
    rw (← add-one) (ap (flat_map f) (take_more (map task_of items) t (task_of x) within ∙ ap (λ y. take t (map task_of items) ++ y ∷ []) here))
    ∙ (flat_map_append f (take t (map task_of items)) (task_of x ∷ []) ∙ ap (λ l. flat_map f (take t (map task_of items)) ++ l) (append-nil (f (task_of x))))

abbrev part : Sort → Task → List (List ℕ)
part sort x = flat_map (names_in sort) (statements_in x)

pub record MadeUpTo (sort : Sort) (items : List DraftTask) (t : ℕ) (names : List (List ℕ)) : Type 0 where
  pub made : names ≡ with_names [] (all_named sort (take t (map task_of items)))

pub none_made : (sort : Sort) (items : List DraftTask) (names : List (List ℕ)) → names ≡ [] → MadeUpTo sort items 0 names
none_made sort items names e = record { made = e }

pub one_made : (sort : Sort) (items : List DraftTask) (t : ℕ) (names new : List (List ℕ)) (x : DraftTask) → t < length items → x ≡ get_or items t x → MadeUpTo sort items t names → new ≡ with_names names (part sort (task_of x)) → MadeUpTo sort items (t + 1) new
one_made sort items t names new x lt is at e = record {
  made = rw add-one
      (e ∙ (ap (λ n. with_names n (part sort (task_of x))) at.made
      ∙ (sym (with_names-append [] (all_named sort (take t (map task_of items))) (part sort (task_of x)))
      ∙ ap (with_names []) (sym (flat_next (part sort) items t x lt is)))));
}

pub all_made : (sort : Sort) (items : List DraftTask) (t : ℕ) (names : List (List ℕ)) → length items ≤ t → MadeUpTo sort items t names → names ≡ with_names [] (all_named sort (map task_of items))
all_made sort items t names le at = at.made ∙ ap (λ l. with_names [] (all_named sort l)) (take_all t (map task_of items) (omega (arith, length-map items task_of)))

-- the sites up to the t-th task stand once
pub record OnceUpTo (d : declared.Draft) (t : ℕ) (names : List (List ℕ)) : Type 0 where
  pub table : MadeUpTo Sites d.tasks.items t names
  pub once : some_twice (sites_of (take t (draft_of d).tasks)) ≡ false
  pub before : NoneUpTo (applies (draft_of d) why.SiteTwice) t

pub once_at_first : (d : declared.Draft) (names : List (List ℕ)) → names ≡ [] → OnceUpTo d 0 names
once_at_first d names e = record {
  table = none_made Sites d.tasks.items names e;
  once = refl;
  before = none_at_first (applies (draft_of d) why.SiteTwice) refl;
}

twice_next : (d : declared.Draft) (t : ℕ) (names : List (List ℕ)) (x : DraftTask) (again : Bool) → t < length d.tasks.items → x ≡ get_or d.tasks.items t x → OnceUpTo d t names → again ≡ twice_after names (part Sites (task_of x)) → some_twice (sites_of (take (suc t) (draft_of d).tasks)) ≡ again
twice_next d t names x again lt is at e =
    ap some_twice (flat_next (part Sites) d.tasks.items t x lt is)
    ∙ (twice_after-append [] (sites_of (take t (draft_of d).tasks)) (part Sites (task_of x))
    ∙ (ap (λ b. b || twice_after (with_names [] (sites_of (take t (draft_of d).tasks))) (part Sites (task_of x))) at.once
    ∙ (ap (λ n. twice_after n (part Sites (task_of x))) (sym at.table.made) ∙ sym e)))

pub once_at_next : (d : declared.Draft) (t : ℕ) (names new : List (List ℕ)) (x : DraftTask) (again : Bool) → t < length d.tasks.items → x ≡ get_or d.tasks.items t x → OnceUpTo d t names → new ≡ with_names names (part Sites (task_of x)) → again ≡ twice_after names (part Sites (task_of x)) → again ≡ false → OnceUpTo d (t + 1) new
once_at_next d t names new x again lt is at made e never =
    let twice : some_twice (sites_of (take (suc t) (draft_of d).tasks)) ≡ false = twice_next d t names x again lt is at e ∙ never in
    record {
      table = one_made Sites d.tasks.items t names new x lt is at.table made;
      once = rw add-one twice;
      before = none_at_next (applies (draft_of d) why.SiteTwice) t at.before (applies_at d why.SiteTwice t x lt is ∙ twice);
    }

pub twice_here : (d : declared.Draft) (t : ℕ) (names : List (List ℕ)) (x : DraftTask) (again : Bool) → t < length d.tasks.items → x ≡ get_or d.tasks.items t x → OnceUpTo d t names → again ≡ twice_after names (part Sites (task_of x)) → again ≡ true → (t < length (draft_of d).tasks) × IsFirst (applies (draft_of d) why.SiteTwice) (Some (suc t))
twice_here d t names x again lt is at e now =
    (omega (arith, length-map d.tasks.items task_of), (applies_at d why.SiteTwice t x lt is ∙ (twice_next d t names x again lt is at e ∙ now), λ m below. at.before.none m below))

pub once_at_all : (d : declared.Draft) (t : ℕ) (names : List (List ℕ)) → length d.tasks.items ≤ t → OnceUpTo d t names → some_twice (sites_of (draft_of d).tasks) ≡ false
once_at_all d t names le at =
    sym (ap (λ l. some_twice (sites_of l)) (take_all t (draft_of d).tasks (omega (arith, length-map d.tasks.items task_of)))) ∙ at.once
