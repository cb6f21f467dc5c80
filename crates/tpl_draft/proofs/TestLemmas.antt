-- A test is true of a task just where the refusal applies to it.
use Rattle.std.proofs.Common.{◌≡◌, ℕ, ◌<◌, ◌||◌, ◌&&◌, not, List, [], ◌∷◌, length, nat_lt, refl, ap, ◌∙◌}
use Rattle.std.specs.Prelude.{slice_get}
use Rattle.std.specs.List.{list_any}
use Rattle.tpl_draft.specs.declared.refusals.Test.{Test}
use Rattle.tpl_draft.specs.declared.refusals.Test.TheVariants as test
use Rattle.tpl_draft.specs.Names.{place}
use Rattle.tpl_draft.specs.Draft.{Task, Token, Draft, linked_to, worked, waits_for, statements_in}
use Rattle.tpl_draft.specs.Numbered.{names_of, graph_in}
use Rattle.tpl_draft.specs.Refusals.{in_task, in_lists, some_misplaced, is_missing, lacks, says_unknown, is_child, is_child_at, is_one_before, starters_from, all_starts, starts_no_child}
use Rattle.tpl_draft.specs.Test.{IsTestOf, in_lists_of, tests, why_of, starter_of, is_before}
use Rattle.std.specs.Prelude.{Some}

before_is : (t : ℕ) (ps : List ℕ) → is_before t (Some (starter_of ps)) ≡ is_one_before t ps
before_is t [] = refl
before_is t (p ∷ []) = refl
before_is t (p ∷ q ∷ ps) = refl

pub tested : (d : Draft) (test : Test) (t : ℕ) (x : Task) → t < length d.tasks → IsTestOf d test → tests d.tasks test t x ≡ in_task d (why_of test) t x
tested d (test.Unknown n) t x lt of =
    ap (λ l. (is_missing l (worked x.kind).token || list_any (lacks n.now.tasks) (waits_for x.kind)) || list_any (says_unknown n.now.inputs l n.now.tasks) (statements_in x)) of.1
    ∙ (ap (λ l. (is_missing (names_of d).tokens (worked x.kind).token || list_any (lacks l) (waits_for x.kind)) || list_any (says_unknown n.now.inputs (names_of d).tokens l) (statements_in x)) of.2
    ∙ ap (λ l. (is_missing (names_of d).tokens (worked x.kind).token || list_any (lacks (names_of d).tasks) (waits_for x.kind)) || list_any (says_unknown l (names_of d).tokens (names_of d).tasks) (statements_in x)) of.0)
tested d (test.NotEarlier n) t x lt of = ap (λ l. list_any (λ a. not (nat_lt (place l a) t)) (waits_for x.kind)) of.2
tested d (test.OfChild n) t x lt of = ap (λ l. list_any (λ a. is_child_at d.tasks (place l a)) (waits_for x.kind)) of.2
tested d (test.ChildPlace n starters) t x lt of =
    ap (λ l. (is_child x.kind && not (is_before t (slice_get starters.now t))) || list_any (starts_no_child d.tasks l) (statements_in x)) of.0.2
    ∙ ap (λ b. (is_child x.kind && not b) || list_any (starts_no_child d.tasks (names_of d).tasks) (statements_in x))
    (ap (is_before t) (of.1 t lt) ∙ before_is t (starters_from t 0 (all_starts (graph_in (names_of d) d))))
tested d s t x lt of = refl

pub asked_of_lists : (d : Draft) (test : Test) → IsTestOf d test → in_lists_of d test ≡ in_lists d (why_of test)
asked_of_lists d (test.Unknown n) of = ap (λ l. list_any (λ (k : Token). list_any (lacks l) (linked_to k.linked)) d.tokens) of.1
asked_of_lists d (test.LinkPlace tokens) of = ap (some_misplaced 0) of
asked_of_lists d s of = refl
