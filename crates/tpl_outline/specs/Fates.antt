-- What an outline in memory says of a task.
use Rattle.std.specs.Prelude.{◌≡◌, ◌≢◌, ℕ, Bool, true, false, ◌⊎◌, slice_index_or}
use Rattle.tpl_model.specs.declared.finals.Final.{Final}
use Rattle.tpl_model.specs.Finals.{has}
use Rattle.tpl_model.specs.Certificate.{Assumed, end_left}
use Rattle.tpl_outline.specs.declared.outline.Fate.{Fate}
use Rattle.tpl_outline.specs.declared.outline.Outline.{Outline}

-- it doesn't begin, its body doesn't end, and it doesn't end
abbrev pub unsettled : Fate
unsettled = record {
  runs = false;
  verdicts = record { returned = false; thrown = false; acknowledged = false };
  ends = record { ran = false; canceled = false; faulted = false };
}

-- what may become of the task
abbrev pub fate_of : Outline → ℕ → Fate
fate_of o t = slice_index_or o.fates t unsettled

-- the task may end so
abbrev pub may_end : Outline → ℕ → Final → Bool
may_end o t f = has (fate_of o t).ends f

-- no other task's fate is changed
abbrev pub KeepsOthers : ℕ → Outline → Outline → Type 0
KeepsOthers task old new = (t : ℕ) → t ≢ task → fate_of new t ≡ fate_of old t

-- a task ends in no way in which it couldn't before, unless what is assumed leaves it open
abbrev pub IsOpen : Assumed → Outline → Outline → Type 0
IsOpen l old new = (t : ℕ) (f : Final) → may_end new t f ≡ true → (may_end old t f ≡ true) ⊎ (end_left l t f ≡ true)
