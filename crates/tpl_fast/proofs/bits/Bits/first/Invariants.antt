use Rattle.tpl_fast.proofs.BitLemmas.{EmptyBelow}
use Rattle.tpl_fast.proofs.bits.Bits.first.Given as goal

abbrev pub invariant-loop-i : goal.invariant-loop-i
invariant-loop-i l = EmptyBelow l.self-inside.words l.i
