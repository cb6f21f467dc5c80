use Rattle.std.proofs.Common.{◌≡◌, drop}
use Rattle.tpl_laws.specs.Verdict.{rows_fit}
use Rattle.tpl_model.specs.Certificate.{plain}
use Rattle.tpl_checker.proofs.shape.rows_fit.Given as goal

abbrev pub invariant-loop-row : goal.invariant-loop-row
invariant-loop-row l = rows_fit l.graph.graph (plain l.rows) ≡ rows_fit l.graph.graph (plain (drop l.row-index l.rows))
