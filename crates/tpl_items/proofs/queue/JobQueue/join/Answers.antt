use Rattle.std.proofs.Common.{map}
use Rattle.crossbeam_queue.specs.Passes.{view}
use Rattle.tpl_items.proofs.Steps.{merges}
use Rattle.tpl_items.proofs.queue.JobQueue.join.Goals as goal

pub absorb-requires-clause-rule : goal.absorb-requires-clause-rule
absorb-requires-clause-rule g c items views b at apart there =
    let seat = c.first.inside.seat in
    let other = c.second.inside.seat in merges (map (λ p. p.job.task.0) items) views seat.id (view seat) other.id (view other) c.first.invariant.1 b at apart there
