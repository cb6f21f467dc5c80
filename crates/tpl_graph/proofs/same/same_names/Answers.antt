use Rattle.std.proofs.Common.{arith, refl}
use Rattle.tpl_graph.proofs.SameLemmas.{all_compared}
use Rattle.tpl_graph.proofs.same.same_names.Goals as goal

pub returns : goal.returns
returns c = (λ _. all_compared _ _ c.loop-i.i (omega (arith, c.loop-i-test.false, c.len-i-end.ensures)) c.loop-i.invariant, λ _. refl)
