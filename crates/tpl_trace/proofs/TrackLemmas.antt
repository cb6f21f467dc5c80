-- Who does one of the events.
use Rattle.std.proofs.Common.{◌≡◌, ◌∙◌, ℕ, ◌+◌, ◌-◌, ◌<◌, ◌≤◌, List, [], ◌∷◌, ◌++◌, length, take, get_or, slice_index_or, true, false, refl, sym, ap, Bool, arith}
use Rattle.std.specs.Prelude.{◌||◌}
use Rattle.std.proofs.lemmas.List.{take_more}
use Rattle.tpl_model.proofs.Truths.{or_false, or_true}
use Rattle.tpl_model.specs.declared.status.Actor.{Actor}
use Rattle.tpl_model.specs.Journal.{same_actor}
use Rattle.tpl_model.specs.declared.event.Event.{Event}
use Rattle.tpl_trace.specs.Trace.{acts_in}

or_last : (b c d : Bool) → b || (c || d) ≡ (b || c) || d
or_last true c d = refl
or_last false c d = refl

acts_last : (a : Actor) (h : List Event) (e : Event) → acts_in a (h ++ (e ∷ [])) ≡ acts_in a h || same_actor a e.actor
acts_last a [] e = or_false (same_actor a e.actor)
acts_last a (x ∷ h) e = ap (λ b. same_actor a x.actor || b) (acts_last a h e) ∙ or_last (same_actor a x.actor) (acts_in a h) (same_actor a e.actor)

-- with one event more
pub acts_more : (a : Actor) (h : List Event) (i : ℕ) (d : Event) → i < length h → acts_in a (take (i + 1) h) ≡ acts_in a (take i h) || same_actor a (get_or h i d).actor
acts_more a h i d lt = rw (take_more h i d lt) (acts_last a (take i h) (get_or h i d))

-- one that the actor does is found
pub acts_found : (a : Actor) (h : List Event) (left : ℕ) (d : Event) (b : Bool) → 0 < left → left ≤ length h → acts_in a (take left h) ≡ acts_in a h → b ≡ same_actor a (slice_index_or h (left - 1) d).actor → b ≡ true → true ≡ acts_in a h
acts_found a h left d b positive within known is same =
    let e : left ≡ (left - 1) + 1 = omega (arith, positive) in
    sym (or_true (acts_in a (take (left - 1) h))) ∙ (ap (λ c. acts_in a (take (left - 1) h) || c) (sym same ∙ is) ∙ (sym (acts_more a h (left - 1) d (omega (arith, positive, within))) ∙ (ap (λ n. acts_in a (take n h)) (sym e) ∙ known)))

-- one that it doesn't is passed over
pub acts_before : (a : Actor) (h : List Event) (left : ℕ) (d : Event) (b : Bool) → 0 < left → left ≤ length h → acts_in a (take left h) ≡ acts_in a h → b ≡ same_actor a (slice_index_or h (left - 1) d).actor → b ≡ false → (left - 1 ≤ length h) × (acts_in a (take (left - 1) h) ≡ acts_in a h)
acts_before a h left d b positive within known is other =
    let e : left ≡ (left - 1) + 1 = omega (arith, positive) in (
      omega (arith, within),
      sym (or_false (acts_in a (take (left - 1) h))) ∙ (ap (λ c. acts_in a (take (left - 1) h) || c) (sym other ∙ is) ∙ (sym (acts_more a h (left - 1) d (omega (arith, positive, within))) ∙ (ap (λ n. acts_in a (take n h)) (sym e) ∙ known))),
    )
