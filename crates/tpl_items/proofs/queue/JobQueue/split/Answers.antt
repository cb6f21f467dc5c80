use Rattle.std.proofs.Common.{map}
use Rattle.crossbeam_queue.specs.Passes.{view}
use Rattle.tpl_items.proofs.Steps.{forks}
use Rattle.tpl_items.proofs.queue.JobQueue.split.Goals as goal

pub another-other-requires-clause-rule : goal.another-other-requires-clause-rule
another-other-requires-clause-rule g c items views b at =
    let seat = c.pass.inside.seat in forks (map (λ p. p.job.task.0) items) views seat.id (view seat) c.pass.invariant.1 b at
