use Rattle.std.proofs.Common.{◌≡◌, length}
use Rattle.tpl_series.specs.Told.{HasKept}
use Rattle.tpl_series.proofs.telling.tell_alone.Given as goal

abbrev pub invariant-loop-place : goal.invariant-loop-place
invariant-loop-place g l =
    (length l.kept.items ≡ l.place) × HasKept (g.T.Tell.tells l.telling) g.T.Tell.keep g.W.Write.contents l.initial.to l.to l.kept.items
