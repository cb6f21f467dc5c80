use Rattle.std.proofs.Common.{rules, refl}
use Rattle.tpl_examples.proofs.Computed.{story}
use Rattle.tpl_examples.proofs.many_tasks.requests_on_the_way.Goals as goal

pub returns : goal.returns
returns c = story _ _ _ refl (search rules)
