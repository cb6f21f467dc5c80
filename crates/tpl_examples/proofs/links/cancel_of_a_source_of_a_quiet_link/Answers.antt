use Rattle.std.proofs.Common.{rules, refl}
use Rattle.tpl_examples.proofs.Computed.{story}
use Rattle.tpl_examples.proofs.links.cancel_of_a_source_of_a_quiet_link.Goals as goal

pub returns : goal.returns
returns c = story _ _ _ refl (search rules)
