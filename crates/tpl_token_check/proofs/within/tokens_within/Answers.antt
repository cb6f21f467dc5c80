use Rattle.tpl_token_check.proofs.WithinLemmas.{tokens_within}
use Rattle.tpl_token_check.proofs.within.tokens_within.Goals as goal

pub returns : goal.returns
returns c g test a same = tokens_within g c.args.all.now c.args.tokens c.intersection.result test a c.intersection.ensures same
