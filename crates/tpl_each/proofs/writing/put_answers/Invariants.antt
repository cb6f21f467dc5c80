use Rattle.std.proofs.Common.{map, take}
use Rattle.tpl_journal.specs.Writing.{Writes}
use Rattle.tpl_each.specs.Said.{numbered}
use Rattle.tpl_each.specs.Slots.{said_of}
use Rattle.tpl_each.proofs.writing.put_answers.Given as goal

abbrev pub invariant-loop-at : goal.invariant-loop-at
invariant-loop-at g l = Writes g.W.Write.contents l.initial.to l.to (numbered l.number (map said_of (take l.at l.slots)))
