-- The entries of one event after another.
use Rattle.std.proofs.Common.{◌≡◌, ◌∙◌, ℕ, suc, ◌+◌, map, ◌<◌, List, [], ◌∷◌, ◌++◌, length, take, drop, get_or, slice_index_or, Option, Some, Bool, true, sym, ap, append_assoc, arith}
use Rattle.std.specs.Prelude.{if◌then◌else◌}
use Rattle.std.proofs.lemmas.List.{take_more, length-take-le, map_push}
use Rattle.std.proofs.Math.Seq.{drop-cons}
use Rattle.std.proofs.Math.Numerals.{add-one}
use Rattle.serde_json.specs.Data.{Data}
use Rattle.serde_json.specs.View.{view}
use Rattle.serde_json.specs.declared.value.Value.{Value}
use Rattle.tpl_draft.specs.Named.{Named}
use Rattle.tpl_model.specs.declared.event.Event.{Event}
use Rattle.tpl_trace.specs.Trace.{arrow_to, body_mark, event_marks, marks, marks_from, moment_of, new_track, new_tracks, some_may_end}
use Rattle.tpl_trace.specs.Marks.{arrow_end}
use Rattle.tpl_trace.specs.declared.moment.Moment.{Moment}

marks_step : (n : Named) (times : List ℕ) (h : List Event) (i : ℕ) (d : Event) → i < length h → marks_from n times h (take i h) (drop i h) ≡ event_marks n times h (take i h) (get_or h i d) (drop (suc i) h) ++ marks_from n times h (take (suc i) h) (drop (suc i) h)
marks_step n times h i d lt =
    ap (marks_from n times h (take i h)) (drop-cons h i d lt)
    ∙ ap (λ past. event_marks n times h (take i h) (get_or h i d) (drop (suc i) h) ++ marks_from n times h past (drop (suc i) h)) (sym (rw add-one at (take_more h i d lt)))

event_at : (n : Named) (times : List ℕ) (h : List Event) (i : ℕ) (e : Event) → i < length h → event_marks n times h (take i h) e (drop (suc i) h) ≡ new_tracks n h (take i h) e ++ marks n e.act (moment_of times h e i) (take i h) (drop (suc i) h)
event_at n times h i e lt =
    ap (λ place. new_tracks n h (take i h) e ++ marks n e.act (moment_of times h e place) (take i h) (drop (suc i) h)) (length-take-le i h (omega (arith, lt)))

-- after the entries of one event more
pub marks_more : (n : Named) (times : List ℕ) (h : List Event) (i : ℕ) (d : Event) (e : Event) (all now mid new : List Data) → i < length h → e ≡ slice_index_or h i d
    → now ++ marks_from n times h (take i h) (drop i h) ≡ all
    → mid ≡ now ++ new_tracks n h (take i h) e
    → new ≡ mid ++ marks n e.act (moment_of times h e i) (take i h) (drop (suc i) h)
    → new ++ marks_from n times h (take (suc i) h) (drop (suc i) h) ≡ all
marks_more n times h i d e all now mid new lt is so_far track act =
    let rest = marks_from n times h (take (suc i) h) (drop (suc i) h) in
    let first = new_tracks n h (take i h) e in
    let second = marks n e.act (moment_of times h e i) (take i h) (drop (suc i) h) in
    ap (λ xs. xs ++ rest) (act ∙ ap (λ xs. xs ++ second) track)
    ∙ (append_assoc (now ++ first) second rest
    ∙ (append_assoc now first (second ++ rest)
    ∙ (ap (λ xs. now ++ xs) (sym (append_assoc first second rest))
    ∙ (ap (λ xs. now ++ (xs ++ rest)) (sym (event_at n times h i e lt))
    ∙ (ap (λ (x : Event). now ++ (event_marks n times h (take i h) x (drop (suc i) h) ++ rest)) is
    ∙ (ap (λ xs. now ++ xs) (sym (marks_step n times h i d lt))
    ∙ so_far))))))

-- the names of the actor's track and of the body's
pub both_tracks : (n : Named) (h past : List Event) (e : Event) (now mid new : List Data) → mid ≡ now ++ new_track past e.actor → new ≡ mid ++ body_mark n h e.actor e.act → new ≡ now ++ new_tracks n h past e
both_tracks n h past e now mid new track body =
    body ∙ (ap (λ xs. xs ++ body_mark n h e.actor e.act) track ∙ append_assoc now (new_track past e.actor) (body_mark n h e.actor e.act))

-- one entry, and then others
pub then_more : (old mid new more : List Data) (i : Data) → mid ≡ old ++ (i ∷ []) → new ≡ mid ++ more → new ≡ old ++ (i ∷ more)
then_more old mid new more i one added = added ∙ (ap (λ ds. ds ++ more) one ∙ append_assoc old (i ∷ []) more)

-- the end of an arrow
pub arrow_ends : (old pushed : List Value) (v : Value) (t : Option ℕ) (a : ℕ) (here : Moment) (past : List Event) → pushed ≡ old ++ (v ∷ []) → view v ≡ arrow_end (here.before + 1) here.track here.time → Some a ≡ t → some_may_end a past ≡ true
    → map view pushed ≡ map view old ++ arrow_to t here past
arrow_ends old pushed v t a here past push is known ends =
    ap (map view) push
    ∙ (map_push view old v
    ∙ (ap (λ d. map view old ++ (d ∷ [])) (rw add-one at is)
    ∙ (ap (λ (b : Bool). map view old ++ (if b then arrow_end (suc here.before) here.track here.time ∷ [] else [])) (sym ends)
    ∙ ap (λ o. map view old ++ arrow_to o here past) known)))
