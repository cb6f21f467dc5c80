use Rattle.tpl_items.specs.Stock.{AreOthers}
use Rattle.tpl_items.proofs.stock.kept_for.Given as goal

abbrev pub invariant-loop-place : goal.invariant-loop-place
invariant-loop-place l = AreOthers l.kept l.place l.worker
