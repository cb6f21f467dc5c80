use Rattle.tpl_token_check.proofs.WithinLemmas.{tasks_within}
use Rattle.tpl_token_check.proofs.within.tasks_within.Goals as goal

pub returns : goal.returns
returns c g test a same = tasks_within g c.args.all.now c.args.tasks.now c.intersection.result test a c.intersection.ensures.set c.intersection.ensures.members same
