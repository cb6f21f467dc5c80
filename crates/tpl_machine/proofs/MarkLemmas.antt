-- In a run the newest mark of a task says where it stands.
use Rattle.std.proofs.Common.{◌≡◌, ℕ, ◌||◌, ◌⊎◌, inl, inr, Bool, true, false, List, [], ◌∷◌, Option, Some, None, refl, sym, ap, ◌∙◌, subst, nat_eq}
use Rattle.std.specs.Prelude.{is_some, if◌then◌else◌}
use Rattle.std.proofs.lemmas.Bool.{eqb-true}
use Rattle.tpl_model.specs.declared.finals.Final.{Final}
use Rattle.tpl_model.specs.declared.status.Actor.{Actor}
use Rattle.tpl_model.specs.declared.status.Status.{Status}
use Rattle.tpl_model.specs.declared.status.Status.TheVariants.{WaitingForActivation, WaitingToRun, Completed}
use Rattle.tpl_model.specs.declared.event.Act.{Act}
use Rattle.tpl_model.specs.declared.event.Act.TheVariants.{Request, Release, Begin, Step, Worked, Leave, Close, Drop, Settle}
use Rattle.tpl_model.specs.declared.event.Event.{Event}
use Rattle.tpl_model.specs.Graph.{TaskGraph, TaskKind, Root, Child, Continues, WhenAll, WhenAny, kind}
use Rattle.tpl_model.specs.Facts.{Ending, begun_by, begun, released_by, released, left_by, left_body, started, ending, final_in}
use Rattle.tpl_model.specs.Rules.{status, status_by, opening, Allows, Run}
use Rattle.tpl_graph.specs.declared.row.Kind.{Kind}
use Rattle.tpl_graph.specs.Rows.{kind_of}
use Rattle.tpl_machine.specs.declared.marks.Mark.{Mark}
use Rattle.tpl_machine.specs.declared.marks.Mark.TheVariants.{Released, Begun, Left}
use Rattle.tpl_run.specs.Journal.{Journal}
use Rattle.tpl_machine.specs.Marks.{mark_by, or_before, latest, status_marked}

-- what a newest mark says of the marks before it
abbrev Says : Option Mark → Bool → Option Actor → Bool → Type 0
Says None r b l = (r ≡ false) × (b ≡ None) × (l ≡ false)
Says (Some Released) r b l = (r ≡ true) × (b ≡ None) × (l ≡ false)
Says (Some Begun) r b l = (is_some b ≡ true) × (l ≡ false)
Says (Some Left) r b l = l ≡ true

-- a task that waits to be released or begun is neither begun nor left
waits : (en : Option Ending) (l : Bool) (b : Option Actor) (o s : Status) → (s ≡ WaitingForActivation) ⊎ (s ≡ WaitingToRun) → status_by en l b o ≡ s → (b ≡ None) × (l ≡ false)
waits (Some e) l b o s (inl w) p = absurd (cc)
waits (Some e) l b o s (inr w) p = absurd (cc)
waits None true b o s (inl w) p = absurd (cc)
waits None true b o s (inr w) p = absurd (cc)
waits None false (Some x) o s (inl w) p = absurd (cc)
waits None false (Some x) o s (inr w) p = absurd (cc)
waits None false None o s w p = (refl, refl)

module _ (g : TaskGraph) (v : List Bool) (h : List Event) (t : ℕ) where
  abbrev Told : Option Mark → Type 0
  Told m = Says m (released h t) (begun h t) (left_body h t)

  released_next : (actor : Actor) (s : ℕ) (same : Bool) (m : Option Mark) → nat_eq s t ≡ same → status g v h s ≡ WaitingForActivation → Told m
      → Says (or_before (if same then Some Released else None) m) (same || released h t) (begun h t) (left_body h t)
  released_next actor s false m e st told = told
  released_next actor s true m e st told =
      let w = waits (ending g v h t) (left_body h t) (begun h t) (opening (kind g t) (started g v h t) (released h t)) WaitingForActivation (inl refl) (subst (λ z. status g v h z ≡ WaitingForActivation) (eqb-true s t e) st) in
      (refl, w.0, w.1)

  begun_next : (actor : Actor) (s : ℕ) (same : Bool) (m : Option Mark) → nat_eq s t ≡ same → status g v h s ≡ WaitingToRun → Told m
      → Says (or_before (if same then Some Begun else None) m) (released h t) (if same then Some actor else begun h t) (left_body h t)
  begun_next actor s false m e st told = told
  begun_next actor s true m e st told =
      let w = waits (ending g v h t) (left_body h t) (begun h t) (opening (kind g t) (started g v h t) (released h t)) WaitingToRun (inr refl) (subst (λ z. status g v h z ≡ WaitingToRun) (eqb-true s t e) st) in
      (refl, w.1)

  left_next : (same : Bool) (m : Option Mark) → Told m
      → Says (or_before (if same then Some Left else None) m) (released h t) (begun h t) (same || left_body h t)
  left_next false m told = told
  left_next true m told = refl

  next : (actor : Actor) (act : Act) (m : Option Mark) → Allows g v h actor act → Told m
      → Says (or_before (mark_by act t) m) (released_by act t || released h t) (if begun_by act t then Some actor else begun h t) (left_by act t || left_body h t)
  next actor (Request k) m al told = told
  next actor (Release s) m al told = released_next actor s.0 (nat_eq s.0 t) m refl al.1 told
  next actor (Begin s) m al told = begun_next actor s.0 (nat_eq s.0 t) m refl al.1 told
  next actor (Step s) m al told = told
  next actor (Worked s w) m al told = told
  next actor (Leave s) m al told = left_next (nat_eq s.0 t) m told
  next actor (Close s) m al told = told
  next actor (Drop s) m al told = told
  next actor (Settle s) m al told = told

marks_tell : (g : TaskGraph) (v : List Bool) (h : List Event) (t : ℕ) → Run g v h → Says (latest h t) (released h t) (begun h t) (left_body h t)
marks_tell g v [] t r = (refl, refl, refl)
marks_tell g v (e ∷ h) t r = next g v h t e.actor e.act (latest h t) r.1 (marks_tell g v h t r.0)

opens_released : (k : TaskKind) (s : Bool) → opening k s true ≡ WaitingToRun
opens_released Root s = refl
opens_released Child true = refl
opens_released Child false = refl
opens_released (Continues a) s = refl
opens_released (WhenAll args) s = refl
opens_released (WhenAny args) s = refl

opens_unmarked : (en : Option Ending) (k : TaskKind) (s : Bool) → status_marked (final_in en) None (kind_of k) s ≡ status_by en false None (opening k s false)
opens_unmarked (Some e) k s = refl
opens_unmarked None Root s = refl
opens_unmarked None Child true = refl
opens_unmarked None Child false = refl
opens_unmarked None (Continues a) s = refl
opens_unmarked None (WhenAll args) s = refl
opens_unmarked None (WhenAny args) s = refl

by_mark : (en : Option Ending) (m : Option Mark) (k : TaskKind) (s r : Bool) (b : Option Actor) (l : Bool) → Says m r b l → status_marked (final_in en) m (kind_of k) s ≡ status_by en l b (opening k s r)
by_mark en None k s true b l told = absurd (let e = told.0 in cc)
by_mark en None k s false (Some x) l told = absurd (let e = told.1 in cc)
by_mark en None k s false None true told = absurd (let e = told.2 in cc)
by_mark en None k s false None false told = opens_unmarked en k s
by_mark (Some e) (Some Released) k s r b l told = refl
by_mark None (Some Released) k s false b l told = absurd (let e = told.0 in cc)
by_mark None (Some Released) k s true (Some x) l told = absurd (let e = told.1 in cc)
by_mark None (Some Released) k s true None true told = absurd (let e = told.2 in cc)
by_mark None (Some Released) k s true None false told = sym (opens_released k s)
by_mark (Some e) (Some Begun) k s r b l told = refl
by_mark None (Some Begun) k s r None l told = absurd (let e = told.0 in cc)
by_mark None (Some Begun) k s r (Some x) true told = absurd (let e = told.1 in cc)
by_mark None (Some Begun) k s r (Some x) false told = refl
by_mark (Some e) (Some Left) k s r b l told = refl
by_mark None (Some Left) k s r b false told = absurd (cc)
by_mark None (Some Left) k s r b true told = refl

-- where a task of a run stands
pub status_by_mark : (g : TaskGraph) (v : List Bool) (h : List Event) (t : ℕ) → Run g v h → status_marked (final_in (ending g v h t)) (latest h t) (kind_of (kind g t)) (started g v h t) ≡ status g v h t
status_by_mark g v h t r = by_mark (ending g v h t) (latest h t) (kind g t) (started g v h t) (released h t) (begun h t) (left_body h t) (marks_tell g v h t r)

pub status_ended : (g : TaskGraph) (v : List Bool) (h : List Event) (t : ℕ) (f : Final) → final_in (ending g v h t) ≡ Some f → Completed f ≡ status g v h t
status_ended g v h t f e = go (ending g v h t) e
  where
    go : (en : Option Ending) → final_in en ≡ Some f → Completed f ≡ status_by en (left_body h t) (begun h t) (opening (kind g t) (started g v h t) (released h t))
    go None p = absurd (cc)
    go (Some x) p = ap Completed (let same : f ≡ x.final = cc in same)

pub status_open : (g : TaskGraph) (v : List Bool) (h : List Event) (t : ℕ) → Run g v h → final_in (ending g v h t) ≡ None → status_marked None (latest h t) (kind_of (kind g t)) (started g v h t) ≡ status g v h t
status_open g v h t r e = ap (λ f. status_marked f (latest h t) (kind_of (kind g t)) (started g v h t)) (sym e) ∙ status_by_mark g v h t r

-- what the code reads of a task that hasn't ended
pub status_read : (i j : Journal) (t : ℕ) (f : Option Final) (m : Option Mark) (k : Kind) (s : Bool) (r : Status)
    → i ≡ j → Run i.graph i.inputs i.events → f ≡ final_in (ending j.graph j.inputs j.events t) → f ≡ None
    → m ≡ latest i.events t → k ≡ kind_of (kind i.graph t) → s ≡ started j.graph j.inputs j.events t → r ≡ status_marked None m k s
    → r ≡ status j.graph j.inputs j.events t
status_read i j t f m k s r view run is none mark kind_is started_is read =
    read
    ∙ (ap (λ x. status_marked None x k s) (subst (λ (x : Journal). m ≡ latest x.events t) view mark)
    ∙ (ap (λ x. status_marked None (latest j.events t) x s) (subst (λ (x : Journal). k ≡ kind_of (kind x.graph t)) view kind_is)
    ∙ (ap (λ x. status_marked None (latest j.events t) (kind_of (kind j.graph t)) x) started_is
    ∙ status_open j.graph j.inputs j.events t (subst (λ (x : Journal). Run x.graph x.inputs x.events) view run) (sym is ∙ none))))
