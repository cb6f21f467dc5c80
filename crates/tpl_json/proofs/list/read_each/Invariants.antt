use Rattle.std.proofs.Common.{take}
use Rattle.tpl_json.specs.Passes.{Answers, AllRead}
use Rattle.tpl_json.proofs.list.read_each.Given as goal

abbrev pub invariant-loop-index : goal.invariant-loop-index
invariant-loop-index g l = goal.R-IsAlwaysCallable g l.read × AllRead (Answers g.R.Fn l.read) 1 (take l.index l.items) l.found.items
