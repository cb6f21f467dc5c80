use Rattle.std.proofs.Common.{take}
use Rattle.tpl_verdicts.specs.Lines.{AreNumbered, IsEntry}
use Rattle.tpl_verdicts.specs.Told.{all_told}
use Rattle.tpl_verdicts.proofs.entries.entries.Given as goal

abbrev pub invariant-loop-place : goal.invariant-loop-place
invariant-loop-place l = AreNumbered (IsEntry l.all.graph.now.names) 1 (take l.place (all_told l.all)) l.entries.items
