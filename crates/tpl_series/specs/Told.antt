-- Values that were told one after another.
use Rattle.std.specs.Prelude.{◌≡◌, ℕ, List, [], ◌∷◌, ◌++◌, length, map, Option}
use Rattle.tpl_journal.specs.declared.counting.Counting.{Counting}
use Rattle.tpl_journal.specs.Writing.{StopsIn, Writes}
use Rattle.tpl_series.specs.declared.stop.Stop.{Stop}
use Rattle.tpl_series.specs.declared.stop.Stop.TheVariants.{Memory, Device}

-- behind a text that tells so many values, the text tells this value, too
abbrev pub IsNext : {V : Type 0} → (List V → List ℕ → Type 0) → ℕ → V → List ℕ → Type 0
IsNext {V} tells place value text =
    (values : List V) (before : List ℕ) → length values ≡ place → tells values before → tells (values ++ value ∷ []) (before ++ text)

-- a value was told at this place, and this is what is kept of it
pub record TellsNext {V K W : Type 0} (tells : List V → List ℕ → Type 0) (keep : V → K) (place : ℕ) (contents : W → Option (List ℕ)) (old new : Counting W) (kept : K) : Type 0 where
  pub value : V
  pub is : kept ≡ keep value
  pub text : List ℕ
  pub next : IsNext tells place value text
  pub writes : Writes contents old new text

-- a write of a text that tells the value at this place failed
pub record StopsNext {V W : Type 0} (tells : List V → List ℕ → Type 0) (place : ℕ) (contents : W → Option (List ℕ)) (old new : Counting W) : Type 0 where
  pub value : V
  pub text : List ℕ
  pub next : IsNext tells place value text
  pub stops : StopsIn contents old new text

-- memory was refused, and nothing was written; or a write failed
abbrev pub IsHalted : {V W : Type 0} → (List V → List ℕ → Type 0) → ℕ → (W → Option (List ℕ)) → Counting W → Counting W → Stop → Type 0
IsHalted tells place contents old new Memory = new ≡ old
IsHalted tells place contents old new Device = StopsNext tells place contents old new

-- a text that tells these values was written
pub record HasTold {V W : Type 0} (tells : List V → List ℕ → Type 0) (contents : W → Option (List ℕ)) (old new : Counting W) (values : List V) : Type 0 where
  pub text : List ℕ
  pub told : tells values text
  pub writes : Writes contents old new text

-- a text that tells some values was written, and this is what is kept of them
pub record HasKept {V K W : Type 0} (tells : List V → List ℕ → Type 0) (keep : V → K) (contents : W → Option (List ℕ)) (old new : Counting W) (kept : List K) : Type 0 where
  pub values : List V
  pub are : kept ≡ map keep values
  pub told : HasTold tells contents old new values

-- so many values were told
abbrev pub TellsAll : {V K W : Type 0} → (List V → List ℕ → Type 0) → (V → K) → ℕ → (W → Option (List ℕ)) → Counting W → Counting W → List K → Type 0
TellsAll tells keep count contents old new kept = (length kept ≡ count) × HasKept tells keep contents old new kept

-- a write failed, and of a text that tells some values a front was written
pub record StopsTelling {V W : Type 0} (tells : List V → List ℕ → Type 0) (contents : W → Option (List ℕ)) (old new : Counting W) : Type 0 where
  pub values : List V
  pub text : List ℕ
  pub told : tells values text
  pub stops : StopsIn contents old new text

-- memory was refused behind the first values; or a write failed
abbrev pub IsStopped : {V W : Type 0} → (List V → List ℕ → Type 0) → (W → Option (List ℕ)) → Counting W → Counting W → Stop → Type 0
IsStopped {V} tells contents old new Memory = (values : List V) × HasTold tells contents old new values
IsStopped tells contents old new Device = StopsTelling tells contents old new
