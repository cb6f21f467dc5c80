use Rattle.std.proofs.Common.{◌≡◌, ℕ, ◌≤◌, List}
use Rattle.std.specs.Io.KnownBytes.{Consumes}
use Rattle.tpl_journal.specs.Counting.{calls_of, failures_of}
use Rattle.tpl_each.specs.Ahead.{coming}
use Rattle.tpl_each.specs.Kept.{IsKept}
use Rattle.tpl_each.specs.Lines.{IsLine}
use Rattle.tpl_each.proofs.next.next_line.Given as goal

abbrev pub invariant-loop : goal.invariant-loop
invariant-loop g l = record {
  kept : (input : List ℕ) × IsLine input × IsKept input l.line × Consumes (coming g.R.Read.remaining l.initial.ahead l.initial.from) (coming g.R.Read.remaining l.ahead l.from) input;
  calls : l.counter ≤ calls_of l.from;
  failures : failures_of l.from ≡ failures_of l.initial.from;
}
