-- Where a body is begun that may cross another.
use Rattle.std.proofs.Common.{◌≡◌, ◌∙◌, ℕ, suc, ◌-◌, ◌<◌, Bool, true, false, List, length, take, drop, get_or, slice_index_or, sym, ap}
use Rattle.std.specs.Prelude.{if◌then◌else◌}
use Rattle.std.proofs.lemmas.List.{take_more, take_rest}
use Rattle.std.proofs.Math.Seq.{drop-cons}
use Rattle.std.proofs.Math.Numerals.{add-one}
use Rattle.tpl_model.specs.declared.status.Actor.{Actor}
use Rattle.tpl_model.specs.declared.event.Event.{Event}
use Rattle.tpl_model.specs.Facts.{begun_by}
use Rattle.tpl_trace.specs.Trace.{crosses, outlives}

crosses_step : (a : Actor) (t : ℕ) (h : List Event) (i : ℕ) (d : Event) → i < length h
    → crosses a t (take i h) (drop i h) ≡ (if begun_by (get_or h i d).act t then outlives a t (take i h) (drop (suc i) h) else crosses a t (take (suc i) h) (drop (suc i) h))
crosses_step a t h i d lt =
    ap (crosses a t (take i h)) (drop-cons h i d lt)
    ∙ ap (λ past. if begun_by (get_or h i d).act t then outlives a t (take i h) (drop (suc i) h) else crosses a t past (drop (suc i) h)) (sym (rw add-one at (take_more h i d lt)))

-- the event begins it
pub crosses_here : (a : Actor) (t : ℕ) (h : List Event) (i : ℕ) (d : Event) (b all : Bool) → i < length h → b ≡ begun_by (slice_index_or h i d).act t → b ≡ true
    → crosses a t (take i h) (drop i h) ≡ all → outlives a t (take i h) (take (length h - suc i) (drop (suc i) h)) ≡ all
crosses_here a t h i d b all lt is found known =
    let first = outlives a t (take i h) (drop (suc i) h) in
    let rest = crosses a t (take (suc i) h) (drop (suc i) h) in
    ap (outlives a t (take i h)) (take_rest h (suc i)) ∙ (sym (ap (λ (c : Bool). if c then first else rest) (sym is ∙ found)) ∙ (sym (crosses_step a t h i d lt) ∙ known))

-- the event doesn't
pub crosses_beyond : (a : Actor) (t : ℕ) (h : List Event) (i : ℕ) (d : Event) (b all : Bool) → i < length h → b ≡ begun_by (slice_index_or h i d).act t → b ≡ false
    → crosses a t (take i h) (drop i h) ≡ all → crosses a t (take (suc i) h) (drop (suc i) h) ≡ all
crosses_beyond a t h i d b all lt is other known =
    let first = outlives a t (take i h) (drop (suc i) h) in
    let rest = crosses a t (take (suc i) h) (drop (suc i) h) in
    sym (ap (λ (c : Bool). if c then first else rest) (sym is ∙ other)) ∙ (sym (crosses_step a t h i d lt) ∙ known)
