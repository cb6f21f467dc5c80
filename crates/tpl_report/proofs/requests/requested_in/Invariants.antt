use Rattle.std.proofs.Common.{◌≡◌, ◌<◌, ◌||◌, ℕ, false, drop, length}
use Rattle.std.specs.Prelude.{slice_index_or}
use Rattle.tpl_report.specs.Made.{asks}
use Rattle.tpl_report.proofs.requests.requested_in.Given as goal

abbrev pub invariant-loop-place : goal.invariant-loop-place
invariant-loop-place l =
    record {
      exact : (k : ℕ) → k < 32 → slice_index_or l.table k false || asks (drop l._place-index l.events) k ≡ asks l.events k;
      many : length l.table ≡ 32;
    }
