-- How far the tasks of a list have ended.
use Rattle.std.proofs.Common.{◌≡◌, ℕ, zero, suc, ◌+◌, ◌<◌, ◌≤◌, ◌&&◌, ◌||◌, ◌++◌, Bool, true, false, List, [], ◌∷◌, length, map, take, drop, set, get_or, Option, Some, None, is_some, not, refl, sym, ap, ◌∙◌, subst, arith, inl, inr}
use Rattle.std.specs.Prelude.{slice_index_or, replicate, if◌then◌else◌, IfSome, IfNone}
use Rattle.std.specs.Option.{option_map}
use Rattle.std.proofs.lemmas.Bool.{cases_eq, cases_Bool}
use Rattle.std.proofs.lemmas.List.{get_or-set_same, get_or-set_other, length-set, map_more}
use Rattle.tpl_model.proofs.MemberLemmas.{same_self, mem_here, mem_there}
use Rattle.tpl_model.proofs.Truths.{true_false}
use Rattle.tpl_model.specs.declared.ids.TaskId.{TaskId}
use Rattle.tpl_model.specs.Members.{mem}
use Rattle.tpl_model.specs.declared.event.Event.{Event}
use Rattle.tpl_model.specs.Graph.{TaskGraph, kind, attached, is_task, IsParent}
use Rattle.tpl_model.specs.Valid.{IsGraph}
use Rattle.tpl_model.specs.Facts.{Ending, rest, started, ending, all_over}
use Rattle.tpl_model.specs.Rules.{Run, all_ended, some_ended}
use Rattle.tpl_laws.specs.Runs.{NothingGoesBack}
use Rattle.tpl_draft.specs.Ids.{task_number}
use Rattle.tpl_draft.specs.Named.{Named, args_of}
use Rattle.tpl_run.specs.Journal.{Journal, after}
use Rattle.tpl_run.specs.Rows.{is_it}
use Rattle.tpl_fast.specs.Kept.{has_ended, is_over, all_pass, AreHeads, AreEnded, AreOver, AreFound}
use Rattle.tpl_fast.specs.Tokens.{starting}
use Rattle.tpl_laws.proofs.Settling.{attached_child}
use Rattle.tpl_run.proofs.TableLemmas.{all_false}
use Rattle.tpl_run.proofs.GraphLemmas.{attached_within}
use Rattle.tpl_fast.proofs.FrameLemmas.{started_same}

pub ended_passes : (j : Journal) (xs : List ℕ) → all_ended xs (ending j.graph j.inputs j.events) ≡ all_pass (has_ended j) xs
ended_passes j [] = refl
ended_passes j (x ∷ xs) = ap (λ b. has_ended j x && b) (ended_passes j xs)

pub over_passes : (j : Journal) (xs : List ℕ) → all_over xs (started j.graph j.inputs j.events) (ending j.graph j.inputs j.events) ≡ all_pass (is_over j) xs
over_passes j [] = refl
over_passes j (x ∷ xs) = ap (λ b. is_over j x && b) (over_passes j xs)

-- where the first pass, all do where the others do
pub pass_rest : (test : ℕ → Bool) (k : ℕ) (xs : List ℕ) → all_pass test (take k xs) ≡ true → all_pass test (drop k xs) ≡ all_pass test xs
pass_rest test zero xs first = refl
pass_rest test (suc k) [] first = refl
pass_rest test (suc k) (x ∷ xs) first = go (test x) refl (pass_rest test k xs) first
  where
    go : (b : Bool) → test x ≡ b → (all_pass test (take k xs) ≡ true → all_pass test (drop k xs) ≡ all_pass test xs) → (b && all_pass test (take k xs)) ≡ true → all_pass test (drop k xs) ≡ (test x && all_pass test xs)
    go true q rest more = rest more ∙ ap (λ b. b && all_pass test xs) (sym q)
    go false q rest more = true_false (sym more)

pass_append : (test : ℕ → Bool) (xs ys : List ℕ) → all_pass test xs ≡ true → all_pass test ys ≡ true → all_pass test (xs ++ ys) ≡ true
pass_append test [] ys a b = b
pass_append test (x ∷ xs) ys a b = go (test x) (λ more. pass_append test xs ys more b) a
  where
    go : (c : Bool) → (all_pass test xs ≡ true → all_pass test (xs ++ ys) ≡ true) → (c && all_pass test xs) ≡ true → (c && all_pass test (xs ++ ys)) ≡ true
    go true rest more = rest more
    go false rest more = true_false (sym more)

-- one more that passes
pub pass_more : (test : ℕ → Bool) (ts : List TaskId) (i : ℕ) (d : TaskId) → i < length ts → test (get_or ts i d).0 ≡ true → all_pass test (map task_number (take i ts)) ≡ true → all_pass test (map task_number (take (i + 1) ts)) ≡ true
pass_more test ts i d lt here before =
    ap (all_pass test) (map_more task_number ts i d lt)
    ∙ pass_append test (map task_number (take i ts)) ((get_or ts i d).0 ∷ []) before (ap (λ b. b && true) here)

-- whoever passes one test passes another
pass_stays : (test test' : ℕ → Bool) (k : ℕ) (xs : List ℕ) → ((x : ℕ) → mem x xs ≡ true → test x ≡ true → test' x ≡ true) → all_pass test (take k xs) ≡ true → all_pass test' (take k xs) ≡ true
pass_stays test test' zero xs stay all = refl
pass_stays test test' (suc k) [] stay all = refl
pass_stays test test' (suc k) (x ∷ xs) stay all = go (test x) (test' x) (stay x (mem_here x xs)) (pass_stays test test' k xs (λ y m. stay y (mem_there y x xs m))) all
  where
    go : (b b' : Bool) → (b ≡ true → b' ≡ true) → (all_pass test (take k xs) ≡ true → all_pass test' (take k xs) ≡ true) → (b && all_pass test (take k xs)) ≡ true → (b' && all_pass test' (take k xs)) ≡ true
    go true b' now rest more = ap (λ c. c && all_pass test' (take k xs)) (now refl) ∙ rest more
    go false b' now rest more = true_false (sym more)

-- what has ended stays so
still_some : (o o' : Option Ending) → ((x : Ending) → o ≡ Some x → o' ≡ Some x) → is_some o ≡ true → is_some o' ≡ true
still_some None o' stay e = true_false (sym e)
still_some (Some x) o' stay e = ap is_some (stay x refl)

still_ended : (j : Journal) (e : Event) → NothingGoesBack → Run j.graph j.inputs (e ∷ j.events) → (x : ℕ) → has_ended j x ≡ true → has_ended (after j e) x ≡ true
still_ended j e law run x = still_some (ending j.graph j.inputs j.events x) (ending j.graph j.inputs (e ∷ j.events) x) ((law j.graph j.inputs (e ∷ []) j.events run).still_ended x)

pub ended_after : (j : Journal) (e : Event) (places : List ℕ) → NothingGoesBack → Run j.graph j.inputs (e ∷ j.events) → AreEnded j places → AreEnded (after j e) places
ended_after j e places law run heads = record {
  count = heads.count;
  within = heads.within;
  each = λ t lt. pass_stays (has_ended j) (has_ended (after j e)) (slice_index_or places t 0) (args_of (kind j.graph t)) (λ x m. still_ended j e law run x) (heads.each t lt);
}

some_stays : (xs : List ℕ) (e e' : ℕ → Option Ending) → ((x : ℕ) → is_some (e x) ≡ true → is_some (e' x) ≡ true) → some_ended xs e ≡ true → some_ended xs e' ≡ true
some_stays [] e e' stay one = one
some_stays (x ∷ xs) e e' stay one = go (is_some (e x)) (is_some (e' x)) (stay x) (some_stays xs e e' stay) one
  where
    go : (b b' : Bool) → (b ≡ true → b' ≡ true) → (some_ended xs e ≡ true → some_ended xs e' ≡ true) → (b || some_ended xs e) ≡ true → (b' || some_ended xs e') ≡ true
    go true b' now rest more = ap (λ c. c || some_ended xs e') (now refl)
    go false true now rest more = refl
    go false false now rest more = rest more

pub found_after : (j : Journal) (e : Event) (marks : List Bool) → NothingGoesBack → Run j.graph j.inputs (e ∷ j.events) → AreFound j marks → AreFound (after j e) marks
found_after j e marks law run found = record {
  count = found.count;
  each = λ t lt on. some_stays (args_of (kind j.graph t)) (ending j.graph j.inputs j.events) (ending j.graph j.inputs (e ∷ j.events)) (still_ended j e law run) (found.each t lt on);
}

-- a child that isn't started is over as long as before
still_over : (j : Journal) (e : Event) → NothingGoesBack → Run j.graph j.inputs (e ∷ j.events) → (c : ℕ) → (starting e.act (rest j.graph j.inputs j.events) ≡ Some c → ⊥) → is_over j c ≡ true → is_over (after j e) c ≡ true
still_over j e law run c other over =
    ap (λ b. not b || has_ended (after j e) c) (started_same j.graph j.inputs j.events e c other)
    ∙ go (started j.graph j.inputs j.events c) (still_ended j e law run c) over
  where
    go : (b : Bool) → (has_ended j c ≡ true → has_ended (after j e) c ≡ true) → (not b || has_ended j c) ≡ true → (not b || has_ended (after j e) c) ≡ true
    go true stay is = stay is
    go false stay is = refl

-- a child has no other parent
pub only_parent : (g : TaskGraph) (child : TaskId) (parent : Option TaskId) → IsGraph g → IfSome parent (λ p. IsParent g p.0 child.0) → IfNone parent ((p : ℕ) → IsParent g p child.0 → ⊥) → (p c : ℕ) → is_task g c → child.0 ≡ c → IsParent g p c → option_map task_number parent ≡ Some p
only_parent g child None valid some none p c lt same parent = absurd (none p (subst (λ z. IsParent g p z) (sym same) parent))
only_parent g child (Some q) valid some none p c lt same parent = ap Some ((valid.each c lt).one_parent q.0 p (subst (λ z. IsParent g q.0 z) same some) parent)

pub mem_dropped : (k : ℕ) (xs : List ℕ) (x : ℕ) → mem x (drop k xs) ≡ true → mem x xs ≡ true
mem_dropped zero xs x m = m
mem_dropped (suc k) [] x m = m
mem_dropped (suc k) (y ∷ ys) x m = mem_there x y ys (mem_dropped k ys x m)

-- a child that isn't open is over
pub not_open : (begun ended : Bool) → (begun && not ended) ≡ false → (not begun || ended) ≡ true
not_open true true off = refl
not_open true false off = true_false off
not_open false ended off = refl

-- who starts a child in one of two equal graphs does so in the other
pub parent_started : (n : Named) (g : TaskGraph) (child parent : Option ℕ) → n.graph ≡ g → ((p c : ℕ) → is_task n.graph c → child ≡ Some c → IsParent n.graph p c → parent ≡ Some p) → (p c : ℕ) → is_task g c → child ≡ Some c → IsParent g p c → parent ≡ Some p
parent_started n g child parent same law = subst (λ (x : TaskGraph). (p c : ℕ) → is_task x c → child ≡ Some c → IsParent x p c → parent ≡ Some p) same law

-- where a child is started, its parent looks at its children again from the first
pub record IsRestarted (parent : Option ℕ) (places places' : List ℕ) : Type 0 where
  pub count : length places' ≡ length places
  pub each : (t : ℕ) → slice_index_or places' t 0 ≡ (if is_it parent t then 0 else slice_index_or places t 0)

pub over_after : (j : Journal) (e : Event) (parent : Option ℕ) (places places' : List ℕ) → NothingGoesBack → Run j.graph j.inputs (e ∷ j.events) → IsGraph j.graph → ((p c : ℕ) → is_task j.graph c → starting e.act (rest j.graph j.inputs j.events) ≡ Some c → IsParent j.graph p c → parent ≡ Some p) → IsRestarted parent places places' → AreOver j places → AreOver (after j e) places'
over_after j e parent places places' law run valid parent_is restarted heads = record {
  count = restarted.count ∙ heads.count;
  within = λ t lt. elim (cases_Bool (is_it parent t)) [
    | inl on ↦ (let now = at_first t on in omega arith)
    | inr off ↦ subst (λ k. k ≤ length (attached j.graph t)) (sym (as_before t off)) (heads.within t lt)
  ];
  each = λ t lt. elim (cases_Bool (is_it parent t)) [
    | inl on ↦ ap (λ k. all_pass (is_over (after j e)) (take k (attached j.graph t))) (at_first t on)
    | inr off ↦ ap (λ k. all_pass (is_over (after j e)) (take k (attached j.graph t))) (as_before t off)
        ∙ pass_stays (is_over j) (is_over (after j e)) (slice_index_or places t 0) (attached j.graph t)
        (λ x m. still_over j e law run x (λ starts. is_parent t lt x m starts off)) (heads.each t lt)
  ];
}
  where
    at_first : (t : ℕ) → is_it parent t ≡ true → slice_index_or places' t 0 ≡ 0
    at_first t on = restarted.each t ∙ ap (λ (b : Bool). if b then 0 else slice_index_or places t 0) on

    as_before : (t : ℕ) → is_it parent t ≡ false → slice_index_or places' t 0 ≡ slice_index_or places t 0
    as_before t off = restarted.each t ∙ ap (λ (b : Bool). if b then 0 else slice_index_or places t 0) off

    is_parent : (t : ℕ) → is_task j.graph t → (x : ℕ) → mem x (attached j.graph t) ≡ true → starting e.act (rest j.graph j.inputs j.events) ≡ Some x → is_it parent t ≡ false → ⊥
    is_parent t lt x m starts off =
        let is = parent_is t x (attached_within j.graph t x valid m) starts (attached_child j.graph t x m) in
        true_false (sym (sym off ∙ (ap (λ o. is_it o t) is ∙ same_self t)))

abbrev pub no_places : ℕ → List ℕ
no_places n = replicate n 0

none_yet : (n t : ℕ) → slice_index_or (no_places n) t 0 ≡ 0
none_yet zero t = refl
none_yet (suc n) zero = refl
none_yet (suc n) (suc t) = none_yet n t

pub heads_open : (n : ℕ) (lists : ℕ → List ℕ) (test : ℕ → Bool) → AreHeads n lists test (no_places n)
heads_open n lists test = record {
  count = long n;
  within = λ t lt. let e = none_yet n t in omega arith;
  each = λ t lt. ap (λ k. all_pass test (take k (lists t))) (none_yet n t);
}
  where
    long : (m : ℕ) → length (no_places m) ≡ m
    long zero = refl
    long (suc m) = ap suc (long m)

abbrev pub no_marks : ℕ → List Bool
no_marks n = replicate n false

pub found_open : (j : Journal) → AreFound j (no_marks (length j.graph.tasks))
found_open j = record {
  count = long (length j.graph.tasks);
  each = λ t lt on. true_false (sym on ∙ all_false (length j.graph.tasks) t);
}
  where
    long : (m : ℕ) → length (no_marks m) ≡ m
    long zero = refl
    long (suc m) = ap suc (long m)

-- one task is marked, or not
pub found_set : (j : Journal) (marks : List Bool) (s : ℕ) (mark : Bool) → AreFound j marks → is_task j.graph s → mark ≡ some_ended (args_of (kind j.graph s)) (ending j.graph j.inputs j.events) → AreFound j (set marks s mark)
found_set j marks s mark found is right = record {
  count = length-set marks s mark ∙ found.count;
  each = λ t lt on. elim (cases_eq t s) [
    | inl same ↦ subst (λ z. some_ended (args_of (kind j.graph z)) (ending j.graph j.inputs j.events) ≡ true) (sym same)
        (sym right ∙ (sym (get_or-set_same marks s mark false room) ∙ subst (λ z. slice_index_or (set marks s mark) z false ≡ true) same on))
    | inr apart ↦ found.each t lt (sym (get_or-set_other marks s t mark false apart) ∙ on)
  ];
}
  where
    room : s < length marks
    room = let e = found.count in let lt = is in omega arith

-- one task looks on from another place
pub heads_set : (n : ℕ) (lists : ℕ → List ℕ) (test : ℕ → Bool) (places : List ℕ) (s head : ℕ) → AreHeads n lists test places → s < n → head ≤ length (lists s) → all_pass test (take head (lists s)) ≡ true → AreHeads n lists test (set places s head)
heads_set n lists test places s head heads is le pass = record {
  count = length-set places s head ∙ heads.count;
  within = λ t lt. elim (cases_eq t s) [
    | inl same ↦ (let e = get_or-set_same places s head 0 room in subst (λ z. slice_index_or (set places s head) z 0 ≤ length (lists z)) (sym same) (subst (λ k. k ≤ length (lists s)) (sym e) le))
    | inr apart ↦ subst (λ k. k ≤ length (lists t)) (sym (get_or-set_other places s t head 0 apart)) (heads.within t lt)
  ];
  each = λ t lt. elim (cases_eq t s) [
    | inl same ↦ subst (λ z. all_pass test (take (slice_index_or (set places s head) z 0) (lists z)) ≡ true) (sym same)
        (ap (λ k. all_pass test (take k (lists s))) (get_or-set_same places s head 0 room) ∙ pass)
    | inr apart ↦ ap (λ k. all_pass test (take k (lists t))) (get_or-set_other places s t head 0 apart) ∙ heads.each t lt
  ];
}
  where
    room : s < length places
    room = let e = heads.count in let lt = is in omega arith
