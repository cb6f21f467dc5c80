use Rattle.tpl_runtime.proofs.TurnLemmas.{WorksIn}
use Rattle.tpl_runtime.proofs.session.Session.work.Given as goal

abbrev pub invariant-loop : goal.invariant-loop
invariant-loop g l = WorksIn l.self l.fn.seat l.kit
