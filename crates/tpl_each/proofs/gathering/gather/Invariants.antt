use Rattle.std.proofs.Common.{◌≡◌, ℕ, List, length}
use Rattle.std.specs.Io.KnownBytes.{Consumes}
use Rattle.std.specs.List.{All}
use Rattle.tpl_journal.specs.Counting.{failures_of}
use Rattle.tpl_each.specs.Ahead.{coming}
use Rattle.tpl_each.specs.Gathering.{AreIn}
use Rattle.tpl_each.specs.Lines.{IsLine, broken}
use Rattle.tpl_each.proofs.gathering.gather.Given as goal

abbrev pub invariant-loop-at : goal.invariant-loop-at
invariant-loop-at g l = record {
  came : (lines : List (List ℕ)) × AreIn lines l.slots.items × All IsLine lines × Consumes (coming g.R.Read.remaining l.initial.ahead l.initial.from) (coming g.R.Read.remaining l.ahead l.from) (broken lines);
  count : length l.slots.items ≡ l.at;
  failures : failures_of l.from ≡ failures_of l.initial.from;
}
