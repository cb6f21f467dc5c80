use Rattle.std.proofs.Common.{false}
use Rattle.tpl_checker.proofs.CompleteLemmas.{NoneStuck}
use Rattle.tpl_model.specs.Certificate.{plain}
use Rattle.tpl_checker.proofs.property.none_complete.Given as goal

abbrev pub invariant-loop-number : goal.invariant-loop-number
invariant-loop-number l = NoneStuck l.graph.graph (plain l.rows) l.number
