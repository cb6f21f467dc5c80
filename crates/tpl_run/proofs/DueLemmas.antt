-- Whether a task has something due.
use Rattle.std.proofs.Common.{◌≡◌, ℕ, Bool, true, false, List, Option, Some, None, is_some, refl, subst}
use Rattle.std.specs.Prelude.{◌↔◌, IfSome, IfNone}
use Rattle.tpl_model.specs.declared.ids.TaskId.{TaskId}
use Rattle.tpl_model.specs.declared.status.Actor.{Actor}
use Rattle.tpl_model.specs.declared.status.Actor.TheVariants.{Outside}
use Rattle.tpl_model.specs.declared.event.Act.{Act}
use Rattle.tpl_model.specs.declared.event.Act.TheVariants.{Request, Release, Begin, Step, Worked, Leave, Close, Drop, Settle}
use Rattle.tpl_model.specs.declared.event.Event.{Event}
use Rattle.tpl_model.specs.Graph.{TaskGraph}
use Rattle.tpl_model.specs.Rules.{Allows}
use Rattle.tpl_run.specs.Reading.{IsDue, HasDue, NoneDue}

module _ (g : TaskGraph) (v : List Bool) (h : List Event) (t : ℕ) where
  -- the act of the task isn't allowed
  abbrev MayNot : (TaskId → Act) → Type 0
  MayNot act = Allows g v h (Outside 0) (act (record { 0 = t })) → ⊥

  pub denies : (act : TaskId → Act) (b : Bool) → ((actor : Actor) → (b ≡ true) ↔ Allows g v h actor (act (record { 0 = t }))) → b ≡ false → MayNot act
  denies act b test off may = let on : b ≡ true = (test (Outside 0)).1 may in cc

  clash : (act : TaskId → Act) (x : TaskId) → Some x.0 ≡ Some t → MayNot act → Allows g v h (Outside 0) (act x) → ⊥
  clash act x same off may = let e : x.0 ≡ t = cc in off (subst (λ n. Allows g v h (Outside 0) (act (record { 0 = n }))) e may)

  -- a task of which no act is allowed has none due
  pub none_due : MayNot Release → MayNot Drop → MayNot Close → MayNot Settle → NoneDue g v h t
  none_due r d c s (Request k) due = let e = due.of_task in cc
  none_due r d c s (Release x) due = clash Release x due.of_task r (due.allowed (Outside 0))
  none_due r d c s (Begin x) due = let e = due.of_task in cc
  none_due r d c s (Step x) due = let e = due.of_task in cc
  none_due r d c s (Worked x y) due = let e = due.of_task in cc
  none_due r d c s (Leave x) due = let e = due.of_task in cc
  none_due r d c s (Close x) due = clash Close x due.of_task c (due.allowed (Outside 0))
  none_due r d c s (Drop x) due = clash Drop x due.of_task d (due.allowed (Outside 0))
  none_due r d c s (Settle x) due = clash Settle x due.of_task s (due.allowed (Outside 0))

  pub found_or_none : (o : Option Act) → IfSome o (λ act. IsDue g v h t act) → IfNone o (NoneDue g v h t) → (is_some o ≡ true) ↔ HasDue g v h t
  found_or_none (Some act) due none = (λ e. (act, due), λ d. refl)
  found_or_none None due none = (λ e. absurd (cc), λ d. absurd (none d.0 d.1))
