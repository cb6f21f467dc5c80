-- What was settled where a task begins, found from the whole run.
use Rattle.std.specs.Prelude.{◌≡◌, ℕ, suc, ◌<◌, ◌++◌, ◌↔◌, Bool, true, false, Some, None, List, ◌∷◌, length}
use Rattle.tpl_model.specs.Graph.{TaskGraph, IsParent}
use Rattle.tpl_model.specs.declared.event.Event.{Event}
use Rattle.tpl_model.specs.Facts.{Ending, begun, begun_by, started, ending}
use Rattle.tpl_model.specs.Rules.{Run}
use Rattle.tpl_model.specs.Valid.{IsGraph}
use Rattle.tpl_model.specs.Claims.{SettledAtBegin}

-- by the end of the run the task ended at an earlier place, or it was never started and that is so of the task whose
-- body starts it
pub data SettledBefore (g : TaskGraph) (v : List Bool) (run : List Event) (place : ℕ) : ℕ → Type 0 where
  ended_before : {t : ℕ} {e : Ending} → ending g v run t ≡ Some e → e.place < place → SettledBefore g v run place t
  never_started : {t p : ℕ} → started g v run t ≡ false → IsParent g p t → SettledBefore g v run place p → SettledBefore g v run place t

-- a task that hasn't begun has nothing to wait for
abbrev pub SettledWithoutBegin : Type 0
SettledWithoutBegin = (g : TaskGraph) (v : List Bool) (h : List Event) (a b : ℕ) → begun h b ≡ None → SettledAtBegin g v a b h

-- where b begins, at the place behind h, a is settled just where the whole run says that it is settled before that
-- place
abbrev pub SettledBeforeItsBegin : Type 0
SettledBeforeItsBegin =
    (g : TaskGraph) (v : List Bool) (later h : List Event) (e : Event) (a b : ℕ)
    → IsGraph g → Run g v (later ++ e ∷ h) → begun_by e.act b ≡ true
    → SettledAtBegin g v a b (later ++ e ∷ h) ↔ SettledBefore g v (later ++ e ∷ h) (suc (length h)) a
