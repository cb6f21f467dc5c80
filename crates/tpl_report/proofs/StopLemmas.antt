-- Why no report of a run is made.
use Rattle.std.proofs.Common.{◌≡◌, ℕ, Bool, List, refl, subst, sym, inl, inr, arith}
use Rattle.std.proofs.lemmas.Bool.{cases_lt}
use Rattle.std.specs.Prelude.{◌↔◌}
use Rattle.tpl_draft.specs.Named.{Named}
use Rattle.tpl_items.specs.declared.why.OpenWhy.{OpenWhy}
use Rattle.tpl_items.specs.declared.why.OpenWhy.TheVariants.{ItemMissing as NoItem, ItemStrange as StrangeItem, ItemTwice as TwoItems, MayFailDiffers as OtherItem, Memory as NoOpenMemory}
use Rattle.tpl_hall.specs.Views.{SeatView}
use Rattle.tpl_hall.specs.declared.seat.SeatFault.{SeatFault}
use Rattle.tpl_hall.specs.declared.seat.SeatFault.TheVariants.{BadActor as NoActor, SeatTaken as Taken, Memory as NoSeatMemory}
use Rattle.tpl_runtime.specs.Workers.{ComeBack, IsCount}
use Rattle.tpl_runtime.specs.declared.run.RunWhy.{RunWhy}
use Rattle.tpl_runtime.specs.declared.run.RunWhy.TheVariants.{BadCount as NoCount, Seat, Spawn as NoThread, Memory as NoRunMemory}
use Rattle.tpl_runtime.specs.declared.closing.CloseWhy.{CloseWhy}
use Rattle.tpl_runtime.specs.declared.closing.CloseWhy.TheVariants.{Lost, SeatsMissing as NoSeats, Mismatch as Differs, Memory as NoCloseMemory}
use Rattle.tpl_report.specs.declared.fault.RunFault.TheVariants.{ItemMissing, ItemStrange, ItemTwice, MayFailDiffers, BadActor, SeatTaken, BadCount, Spawn, SeatsMissing, Mismatch}
use Rattle.tpl_report.specs.declared.fault.Stop.{Stop}
use Rattle.tpl_report.specs.declared.fault.Stop.TheVariants.{Fault, Memory as NoMemory}
use Rattle.tpl_report.specs.Faults.{open_stop, seat_stop, run_stop, close_stop}
use Rattle.tpl_report.specs.Prevents.{AreItemsOf, RefusesItemsOf, StopsSession, Prevents, StopsFor}

-- the items weren't taken
pub stops_open : {W : Type 0} (site : W → ℕ) (may_fail : W → Bool) (items : List W) (n : Named) (workers : ℕ) (why : OpenWhy) → RefusesItemsOf site may_fail items n why
    → StopsFor (Prevents site may_fail items n workers) (open_stop why)
stops_open site may_fail items n workers (NoItem s) r = (s, r)
stops_open site may_fail items n workers (StrangeItem s) r = (s, r)
stops_open site may_fail items n workers (TwoItems s) r = (s, r)
stops_open site may_fail items n workers (OtherItem s) r = (s, r)
stops_open site may_fail items n workers NoOpenMemory r = tt

-- the items were taken, and the session stopped
pub stops_opened : {W : Type 0} (site : W → ℕ) (may_fail : W → Bool) (items : List W) (n : Named) (workers : ℕ) (stop : Stop) → AreItemsOf site may_fail items n
    → StopsFor (StopsSession workers) stop → StopsFor (Prevents site may_fail items n workers) stop
stops_opened site may_fail items n workers NoMemory are s = tt
stops_opened site may_fail items n workers (Fault ItemMissing) are s = absurd s
stops_opened site may_fail items n workers (Fault ItemStrange) are s = absurd s
stops_opened site may_fail items n workers (Fault ItemTwice) are s = absurd s
stops_opened site may_fail items n workers (Fault MayFailDiffers) are s = absurd s
stops_opened site may_fail items n workers (Fault BadActor) are s = (are, s)
stops_opened site may_fail items n workers (Fault SeatTaken) are s = (are, s)
stops_opened site may_fail items n workers (Fault BadCount) are s = (are, s)
stops_opened site may_fail items n workers (Fault Spawn) are s = (are, s)
stops_opened site may_fail items n workers (Fault SeatsMissing) are s = (are, s)
stops_opened site may_fail items n workers (Fault Mismatch) are s = (are, s)

-- there was no seat for an actor that can have one
pub stops_seat : (fault : SeatFault) (n : ℕ) → (fault ≡ NoActor → ⊥) → StopsFor (StopsSession n) (seat_stop fault)
stops_seat NoActor n known = known refl
stops_seat Taken n known = tt
stops_seat NoSeatMemory n known = tt

-- a run that isn't one of too few or too many workers is one of 1 to 64
count_of_run : (n : ℕ) → ((IsCount n → ⊥) → ⊥) → IsCount n
count_of_run n known =
    elim (cases_lt 0 n) [
      | inl some ↦ elim (cases_lt 64 n) [ inl many ↦ absurd (known (λ count. omega (arith, count.1, many))) | inr few ↦ (some, few) ]
      | inr none ↦ absurd (known (λ count. omega (arith, count.0, none)))
    ]

-- the workers didn't all run
pub stops_run : (why : RunWhy) (n : ℕ) (seats : List SeatView) → ((why ≡ NoCount) ↔ (IsCount n → ⊥)) → ComeBack why n seats → StopsFor (StopsSession n) (run_stop why)
stops_run NoCount n seats count back = count.0 refl
stops_run (Seat w fault) n seats count back = subst (λ f. StopsFor (StopsSession n) (seat_stop f)) (sym back.0) tt
stops_run NoThread n seats count back = count_of_run n (λ never. let e = count.1 never in absurd cc)
stops_run (NoRunMemory w) n seats count back = tt

-- the session wasn't closed well
pub stops_close : (why : CloseWhy) (n : ℕ) → IsCount n → StopsFor (StopsSession n) (close_stop why)
stops_close Lost n few = tt
stops_close NoSeats n few = few
stops_close Differs n few = tt
stops_close NoCloseMemory n few = tt
