use Rattle.std.proofs.Common.{◌≡◌, drop}
use Rattle.tpl_laws.specs.Verdict.{are_plain}
use Rattle.tpl_checker.proofs.shape.are_plain.Given as goal

abbrev pub invariant-loop-row : goal.invariant-loop-row
invariant-loop-row l = are_plain l.rows ≡ are_plain (drop l.row-index l.rows)
