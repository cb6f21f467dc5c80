-- The lines for runs that weren't made.
use Rattle.std.specs.Prelude.{ℕ, List, codes}
use Rattle.tpl_report.specs.declared.fault.RunFault.{RunFault}
use Rattle.tpl_report.specs.declared.fault.RunFault.TheVariants.{ItemMissing, ItemStrange, ItemTwice, MayFailDiffers, BadActor, SeatTaken, BadCount, Spawn, SeatsMissing, Mismatch}

-- the line that names the fault
abbrev pub fault_line : RunFault → List ℕ
fault_line ItemMissing = codes "run: ItemMissing\n"
fault_line ItemStrange = codes "run: ItemStrange\n"
fault_line ItemTwice = codes "run: ItemTwice\n"
fault_line MayFailDiffers = codes "run: MayFailDiffers\n"
fault_line BadActor = codes "run: BadActor\n"
fault_line SeatTaken = codes "run: SeatTaken\n"
fault_line BadCount = codes "run: BadCount\n"
fault_line Spawn = codes "run: Spawn\n"
fault_line SeatsMissing = codes "run: SeatsMissing\n"
fault_line Mismatch = codes "run: Mismatch\n"
