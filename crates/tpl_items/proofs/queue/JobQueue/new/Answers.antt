use Rattle.tpl_items.proofs.Steps.{new_is_balanced}
use Rattle.tpl_items.proofs.queue.JobQueue.new.Goals as goal

pub ruled-requires-clause-rule : goal.ruled-requires-clause-rule
ruled-requires-clause-rule g c = new_is_balanced
