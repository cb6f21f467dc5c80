-- No number of a trace is a float.
use Rattle.std.proofs.Common.{◌≡◌, ℕ, suc, List, [], ◌∷◌, ◌++◌, Bool, true, false, Option, refl, codes}
use Rattle.std.specs.Prelude.{◌||◌, if◌then◌else◌}
use Rattle.serde_json.specs.Data.{Data}
use Rattle.serde_json.specs.View.{items_of}
use Rattle.serde_json.specs.Written.{has_float, items_have_float}
use Rattle.tpl_model.specs.declared.status.Actor.{Actor}
use Rattle.tpl_model.specs.Graph.{TaskGraph, kind}
use Rattle.tpl_model.specs.declared.event.Act.{Act}
use Rattle.tpl_model.specs.declared.event.Act.TheVariants.{Request, Release, Begin, Step, Worked, Leave, Close, Drop, Settle}
use Rattle.tpl_model.specs.declared.event.Event.{Event}
use Rattle.tpl_draft.specs.Named.{Named, antecedent_of}
use Rattle.tpl_journal.specs.Lines.{task_name}
use Rattle.tpl_trace.specs.declared.moment.Moment.{Moment}
use Rattle.tpl_trace.specs.Marks.{slice_mark, arrow_start, arrow_end, track_mark}
use Rattle.tpl_trace.specs.Trace.{may_end, releases, some_ends, acts_in, track_of, track_name, body_track, body_mark, crosses, new_track, new_tracks, arrows, arrows_from, arrow_to, marks, event_marks, marks_from, trace_data}

abbrev IsWhole : List Data → Type 0
IsWhole ds = items_have_float (items_of ds) ≡ false

or_false : (b x y : Bool) → (x ≡ false → y ≡ false) → b || x ≡ false → b || y ≡ false
or_false true x y so none = none
or_false false x y so none = so none

whole_append : (xs ys : List Data) → IsWhole xs → IsWhole ys → IsWhole (xs ++ ys)
whole_append [] ys first second = second
whole_append (x ∷ xs) ys first second = or_false (has_float x) _ _ (λ none. whole_append xs ys none second) first

arrow_whole : (ends follows : Bool) (track time place : ℕ) (ds : List Data) → IsWhole ds → IsWhole (if ends then [] else ((if follows then arrow_start place track time ∷ [] else []) ++ ds))
arrow_whole true follows track time place ds whole = refl
arrow_whole false true track time place ds whole = whole
arrow_whole false false track time place ds whole = whole

arrows_whole : (g : TaskGraph) (t track time place : ℕ) (h : List Event) → IsWhole (arrows g t track time place h)
arrows_whole g t track time place [] = refl
arrows_whole g t track time place (e ∷ later) = arrow_whole (may_end t e.act) (releases g t e.act) track time place _ (arrows_whole g t track time (suc place) later)

arrow_to_whole : (a : Option ℕ) (here : Moment) (past : List Event) → IsWhole (arrow_to a here past)
arrow_to_whole a here past = go (some_ends a past)
  where
    go : (b : Bool) → IsWhole (if b then arrow_end (suc here.before) here.track here.time ∷ [] else [])
    go true = refl
    go false = refl

marks_whole : (n : Named) (x : Act) (here : Moment) (past later : List Event) → IsWhole (marks n x here past later)
marks_whole n (Request k) here past later = refl
marks_whole n (Release c) here past later = arrow_to_whole (antecedent_of (kind n.graph c.0)) here past
marks_whole n (Begin t) here past later = refl
marks_whole n (Step t) here past later = refl
marks_whole n (Worked t answer) here past later = refl
marks_whole n (Leave t) here past later =
    whole_append (arrows_from n.graph t.0 here later) (slice_mark (codes "E") (task_name n.names t) here.track here.time ∷ []) (arrows_whole n.graph t.0 here.track here.time (suc (suc here.before)) later) refl
marks_whole n (Close t) here past later = arrows_whole n.graph t.0 here.track here.time (suc (suc here.before)) later
marks_whole n (Drop t) here past later = arrows_whole n.graph t.0 here.track here.time (suc (suc here.before)) later
marks_whole n (Settle t) here past later = arrows_whole n.graph t.0 here.track here.time (suc (suc here.before)) later

track_whole : (past : List Event) (a : Actor) → IsWhole (new_track past a)
track_whole past a = go (acts_in a past)
  where
    go : (b : Bool) → IsWhole (if b then [] else track_mark (track_name a) (track_of a) ∷ [])
    go true = refl
    go false = refl

body_whole : (n : Named) (h : List Event) (a : Actor) (x : Act) → IsWhole (body_mark n h a x)
body_whole n h a (Request k) = refl
body_whole n h a (Release c) = refl
body_whole n h a (Begin t) = go (crosses a t.0 [] h)
  where
    go : (b : Bool) → IsWhole (if b then track_mark ((track_name a ++ codes ": ") ++ task_name n.names t) (body_track t.0) ∷ [] else [])
    go true = refl
    go false = refl
body_whole n h a (Step t) = refl
body_whole n h a (Worked t answer) = refl
body_whole n h a (Leave t) = refl
body_whole n h a (Close t) = refl
body_whole n h a (Drop t) = refl
body_whole n h a (Settle t) = refl

from_whole : (n : Named) (times : List ℕ) (h past later : List Event) → IsWhole (marks_from n times h past later)
from_whole n times h past [] = refl
from_whole n times h past (e ∷ later) =
    whole_append (event_marks n times h past e later) (marks_from n times h (past ++ (e ∷ [])) later)
    (whole_append (new_tracks n h past e) _ (whole_append (new_track past e.actor) _ (track_whole past e.actor) (body_whole n h e.actor e.act)) (marks_whole n e.act _ past later))
    (from_whole n times h (past ++ (e ∷ [])) later)

pub no_float : (n : Named) (times : List ℕ) (h : List Event) → has_float (trace_data n times h) ≡ false
no_float n times h = rw (from_whole n times h [] h) refl
