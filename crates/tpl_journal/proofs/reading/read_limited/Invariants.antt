use Rattle.std.proofs.Common.{◌≡◌, ◌+◌, ◌-◌, ◌≤◌, length, min, vec_len}
use Rattle.std.specs.Io.KnownBytes.{Consumes}
use Rattle.tpl_journal.specs.Counting.{failures_of, calls_of, remaining_of}
use Rattle.tpl_journal.proofs.reading.read_limited.Given as goal

abbrev pub decreases-loop-buffer : goal.decreases-loop-buffer
decreases-loop-buffer g l = l.limit + 1 - vec_len l.bytes

abbrev pub invariant-loop-buffer : goal.invariant-loop-buffer
invariant-loop-buffer g l = record {
  known : Consumes (remaining_of g.R.Read.remaining l.initial.from) (remaining_of g.R.Read.remaining l.from) l.bytes.items;
  calls : calls_of l.from ≤ calls_of l.initial.from + min (length l.bytes.items) (l.limit + 1);
  failures : failures_of l.from ≡ failures_of l.initial.from;
}
