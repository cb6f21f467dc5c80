use Rattle.std.proofs.Common.{refl}
use Rattle.tpl_runtime.proofs.TurnLemmas.{swept}
use Rattle.tpl_runtime.proofs.shared.Shared.finish.Goals as goal

pub returns-clause-proceeds : goal.returns-clause-proceeds
returns-clause-proceeds g c = let s = c.sweep.ensures in swept _ _ _ _ refl refl s.graph s.seat s.grown
