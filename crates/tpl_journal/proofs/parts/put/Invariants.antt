use Rattle.std.proofs.Common.{take, flat_map}
use Rattle.tpl_journal.specs.Writing.{Writes}
use Rattle.tpl_journal.proofs.parts.put.Given as goal

abbrev pub invariant-loop-part : goal.invariant-loop-part
invariant-loop-part g l = Writes g.W.Write.contents l.initial.to l.to (flat_map (λ part. part.now) (take l.part-index l.parts))
