use Rattle.std.proofs.Common.{◌≡◌, ◌-◌, ◌≤◌, length, take}
use Rattle.std.specs.Io.KnownBytes.{Appends}
use Rattle.tpl_journal.specs.Counting.{failures_of, contents_of}
use Rattle.tpl_journal.proofs.writing.write_all.Given as goal

abbrev pub decreases-loop-written : goal.decreases-loop-written
decreases-loop-written g l = length l.text - l.written

abbrev pub invariant-loop-written : goal.invariant-loop-written
invariant-loop-written g l = record {
  within : l.written ≤ length l.text;
  known : Appends (contents_of g.W.Write.contents l.initial.to) (contents_of g.W.Write.contents l.to) (take l.written l.text);
  failures : failures_of l.to ≡ failures_of l.initial.to;
}
