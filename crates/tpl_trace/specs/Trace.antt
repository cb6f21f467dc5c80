-- The trace of a run: for each event its entries. The time of an event is the one that is given for it, or else its place,
-- in microseconds.
use Rattle.std.specs.Prelude.{ℕ, suc, ◌+◌, ◌&&◌, ◌||◌, Bool, false, if◌then◌else◌, Option, Some, None, List, [], ◌∷◌, ◌++◌, length, codes, decimal, is_some, nat_eq, slice_index_or}
use Rattle.serde_json.specs.Data.{Data, array, object, no_members, member}
use Rattle.serde_json.specs.View.{items_of}
use Rattle.serde_json.specs.Written.{compact_text}
use Rattle.tpl_model.specs.declared.status.Actor.{Actor}
use Rattle.tpl_model.specs.declared.status.Actor.TheVariants.{Worker, Outside}
use Rattle.tpl_model.specs.declared.limits.TheConstants.{MOST_OUTSIDE, MOST_WORKERS}
use Rattle.tpl_model.specs.Graph.{TaskGraph, kind}
use Rattle.tpl_model.specs.Journal.{same_actor}
use Rattle.tpl_model.specs.declared.event.Act.{Act}
use Rattle.tpl_model.specs.declared.event.Act.TheVariants.{Request, Release, Begin, Step, Worked, Leave, Close, Drop, Settle}
use Rattle.tpl_model.specs.declared.event.Event.{Event}
use Rattle.tpl_model.specs.Facts.{begun, begun_by, left_by}
use Rattle.tpl_draft.specs.Named.{Named, antecedent_of}
use Rattle.tpl_journal.specs.Lines.{task_name, token_name}
use Rattle.tpl_trace.specs.declared.moment.Moment.{Moment}
use Rattle.tpl_trace.specs.Marks.{process_mark, track_mark, slice_mark, instant_mark, arrow_start, arrow_end}

-- the number of an actor's track: those of the seats outside come behind those of the workers
abbrev pub track_of : Actor → ℕ
track_of (Worker n) = n.0
track_of (Outside n) = MOST_WORKERS + n

-- the name of an actor's track
abbrev pub track_name : Actor → List ℕ
track_name (Worker n) = codes "worker " ++ decimal n.0
track_name (Outside n) = codes "outside " ++ decimal n

-- the actor does one of the events
abbrev pub acts_in : Actor → List Event → Bool
acts_in a [] = false
acts_in a (e ∷ h) = same_actor a e.actor || acts_in a h

-- the name of an actor's track, where the actor did none of the past events
abbrev pub new_track : (past : List Event) → Actor → List Data
new_track past a = if acts_in a past then [] else track_mark (track_name a) (track_of a) ∷ []

-- the act leaves a body that one of the events begins
abbrev pub leaves_begun : List Event → Act → Bool
leaves_begun past (Leave s) = is_some (begun past s.0)
leaves_begun past act = false

-- Of the later events in which the actor leaves the task's body or one that was begun before it, the first leaves one
-- that was begun before it.
abbrev pub outlives : Actor → ℕ → (past later : List Event) → Bool
outlives a t past [] = false
outlives a t past (e ∷ later) =
    if same_actor a e.actor && left_by e.act t then false
    else ((same_actor a e.actor && leaves_begun past e.act) || outlives a t past later)

-- The task's body, which the actor begins in a later event, doesn't nest: it is begun inside another of the actor's, and
-- not left before that one.
abbrev pub crosses : Actor → ℕ → (past later : List Event) → Bool
crosses a t past [] = false
crosses a t past (e ∷ later) = if begun_by e.act t then outlives a t past later else crosses a t (past ++ (e ∷ [])) later

-- the number of the track of a body that doesn't nest: these come behind those of the workers and the seats
abbrev pub body_track : ℕ → ℕ
body_track t = MOST_WORKERS + MOST_OUTSIDE + 1 + t

-- the track on which the actor begins or leaves the body
abbrev pub track_of_body : List Event → Actor → ℕ → ℕ
track_of_body h a t = if crosses a t [] h then body_track t else track_of a

-- the track of an act in a run: a body that doesn't nest has one of its own, all else stands on the actor's
abbrev pub track_in : List Event → Actor → Act → ℕ
track_in h a (Begin t) = track_of_body h a t.0
track_in h a (Leave t) = track_of_body h a t.0
track_in h a act = track_of a

-- the name of the track of a body that doesn't nest, where it is begun
abbrev pub body_mark : Named → List Event → Actor → Act → List Data
body_mark n h a (Begin t) =
    if crosses a t.0 [] h then track_mark ((track_name a ++ codes ": ") ++ task_name n.names t) (body_track t.0) ∷ [] else []
body_mark n h a act = []

-- an act that may end the task: it leaves, closes, drops or settles it
abbrev pub may_end : ℕ → Act → Bool
may_end t (Leave s) = nat_eq s.0 t
may_end t (Close s) = nat_eq s.0 t
may_end t (Drop s) = nat_eq s.0 t
may_end t (Settle s) = nat_eq s.0 t
may_end t act = false

-- one of the events is such an act
abbrev pub some_may_end : ℕ → List Event → Bool
some_may_end t [] = false
some_may_end t (e ∷ h) = may_end t e.act || some_may_end t h

-- there is a task, and one of the events is such an act
abbrev pub some_ends : Option ℕ → List Event → Bool
some_ends None h = false
some_ends (Some t) h = some_may_end t h

abbrev pub is_number : ℕ → Option ℕ → Bool
is_number t None = false
is_number t (Some a) = nat_eq a t

-- the act releases a continuation of the task
abbrev pub releases : TaskGraph → ℕ → Act → Bool
releases g t (Release c) = is_number t (antecedent_of (kind g c.0))
releases g t act = false

-- The arrows from an act that ended the task, on this track at this time, to each later act that releases a
-- continuation of it; where a later act may end the task too, none starts here beyond that. The first later event is at
-- `place`, and each arrow is numbered by the place of its end.
abbrev pub arrows : TaskGraph → (task track time place : ℕ) → List Event → List Data
arrows g t track time place [] = []
arrows g t track time place (e ∷ later) =
    if may_end t e.act then []
    else ((if releases g t e.act then arrow_start place track time ∷ [] else []) ++ arrows g t track time (suc place) later)

-- the arrows from an event that ended the task to the later events
abbrev pub arrows_from : TaskGraph → ℕ → Moment → (later : List Event) → List Data
arrows_from g t here later = arrows g t here.track here.time (suc (suc here.before)) later

-- the end of the arrow to the release of a continuation of the task, which starts at the last act before it that may
-- end the task
abbrev pub arrow_to : Option ℕ → Moment → (past : List Event) → List Data
arrow_to t here past = if some_ends t past then arrow_end (suc here.before) here.track here.time ∷ [] else []

abbrev pub instant : (verb name : List ℕ) → (track time : ℕ) → Data
instant verb name track time = instant_mark (verb ++ (codes " " ++ name)) track time

-- The entries of an act. A body's slice goes from its begin to its leave; requests, releases, closes, drops and settles
-- are instants; steps and answers of jobs have no entry.
abbrev pub marks : Named → Act → Moment → (past later : List Event) → List Data
marks n (Request k) here past later = instant (codes "request") (token_name n.names k) here.track here.time ∷ []
marks n (Release c) here past later =
    instant (codes "release") (task_name n.names c) here.track here.time ∷ arrow_to (antecedent_of (kind n.graph c.0)) here past
marks n (Begin t) here past later = slice_mark (codes "B") (task_name n.names t) here.track here.time ∷ []
marks n (Step t) here past later = []
marks n (Worked t answer) here past later = []
marks n (Leave t) here past later =
    arrows_from n.graph t.0 here later ++ (slice_mark (codes "E") (task_name n.names t) here.track here.time ∷ [])
marks n (Close t) here past later =
    instant (codes "close") (task_name n.names t) here.track here.time ∷ arrows_from n.graph t.0 here later
marks n (Drop t) here past later =
    instant (codes "drop") (task_name n.names t) here.track here.time ∷ arrows_from n.graph t.0 here later
marks n (Settle t) here past later =
    instant (codes "settle") (task_name n.names t) here.track here.time ∷ arrows_from n.graph t.0 here later

-- the names of tracks that stand before the entries of an event
abbrev pub new_tracks : Named → (h past : List Event) → Event → List Data
new_tracks n h past e = new_track past e.actor ++ body_mark n h e.actor e.act

-- the time of the event behind this many others, in microseconds: the one that is given for it, else its place
abbrev pub time_of : (times : List ℕ) → (before : ℕ) → ℕ
time_of times before = slice_index_or times before (suc before)

-- where the entries of an event of a run stand: on its track, behind so many others, at its time
abbrev pub moment_of : (times : List ℕ) → (h : List Event) → Event → (before : ℕ) → Moment
moment_of times h e before = record { track = track_in h e.actor e.act; before = before; time = time_of times before }

-- the entries of an event of a run; before the first one on a track stands the track's name
abbrev pub event_marks : Named → (times : List ℕ) → (h past : List Event) → Event → (later : List Event) → List Data
event_marks n times h past e later = new_tracks n h past e ++ marks n e.act (moment_of times h e (length past)) past later

-- the entries of each of the later events of a run
abbrev pub marks_from : Named → (times : List ℕ) → (h past later : List Event) → List Data
marks_from n times h past [] = []
marks_from n times h past (e ∷ later) = event_marks n times h past e later ++ marks_from n times h (past ++ (e ∷ [])) later

-- the whole trace: the name of the process, and the entries of each event
abbrev pub entries : Named → (times : List ℕ) → List Event → List Data
entries n times h = process_mark (codes "taskgraph") ∷ marks_from n times h [] h

-- the trace of these events as a JSON value
abbrev pub trace_data : Named → (times : List ℕ) → List Event → Data
trace_data n times h = object (member (codes "traceEvents") (array (items_of (entries n times h))) no_members)

-- the trace of these events as a text of one line
abbrev pub trace_text : Named → (times : List ℕ) → List Event → List ℕ
trace_text n times h = compact_text (trace_data n times h) ++ codes "\n"
