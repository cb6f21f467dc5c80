use Rattle.std.proofs.Common.{◌≡◌, ℕ, true, List, ◌++◌, length}
use Rattle.tpl_journal.specs.Writing.{Writes}
use Rattle.tpl_each.specs.Said.{headed}
use Rattle.tpl_each.proofs.writing.write_text.Given as goal

abbrev pub invariant-loop-rest : goal.invariant-loop-rest
invariant-loop-rest g l =
    (done : List ℕ) × Writes g.W.Write.contents l.initial.to l.to done × (headed l.head true l.text ≡ done ++ headed l.head true l.rest)

abbrev pub decreases-loop-rest : goal.decreases-loop-rest
decreases-loop-rest g l = length l.rest
