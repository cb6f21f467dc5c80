-- Why there is no report, by the reason of the session's call.
use Rattle.tpl_items.specs.declared.why.OpenWhy.{OpenWhy}
use Rattle.tpl_items.specs.declared.why.OpenWhy.TheVariants.{ItemMissing, ItemStrange, ItemTwice, MayFailDiffers, Memory}
use Rattle.tpl_hall.specs.declared.seat.SeatFault.{SeatFault}
use Rattle.tpl_hall.specs.declared.seat.SeatFault.TheVariants.{BadActor, SeatTaken, Memory as NoSeatMemory}
use Rattle.tpl_runtime.specs.declared.run.RunWhy.{RunWhy}
use Rattle.tpl_runtime.specs.declared.run.RunWhy.TheVariants.{BadCount, Seat, Spawn, Memory as NoRunMemory}
use Rattle.tpl_runtime.specs.declared.closing.CloseWhy.{CloseWhy}
use Rattle.tpl_runtime.specs.declared.closing.CloseWhy.TheVariants.{Lost, SeatsMissing, Mismatch, Memory as NoCloseMemory}
use Rattle.tpl_report.specs.declared.fault.RunFault.TheVariants as fault
use Rattle.tpl_report.specs.declared.fault.Stop.{Stop}
use Rattle.tpl_report.specs.declared.fault.Stop.TheVariants.{Fault, Memory as NoMemory}

-- a session wasn't opened
abbrev pub open_stop : OpenWhy → Stop
open_stop (ItemMissing s) = Fault fault.ItemMissing
open_stop (ItemStrange s) = Fault fault.ItemStrange
open_stop (ItemTwice s) = Fault fault.ItemTwice
open_stop (MayFailDiffers s) = Fault fault.MayFailDiffers
open_stop Memory = NoMemory

-- there was no seat
abbrev pub seat_stop : SeatFault → Stop
seat_stop BadActor = Fault fault.BadActor
seat_stop SeatTaken = Fault fault.SeatTaken
seat_stop NoSeatMemory = NoMemory

-- the workers didn't all run
abbrev pub run_stop : RunWhy → Stop
run_stop BadCount = Fault fault.BadCount
run_stop (Seat w why) = seat_stop why
run_stop Spawn = Fault fault.Spawn
run_stop (NoRunMemory w) = NoMemory

-- a session wasn't closed well
abbrev pub close_stop : CloseWhy → Stop
close_stop Lost = Fault fault.Mismatch
close_stop SeatsMissing = Fault fault.SeatsMissing
close_stop Mismatch = Fault fault.Mismatch
close_stop NoCloseMemory = NoMemory
