use Rattle.std.proofs.Common.{rules, refl}
use Rattle.tpl_examples.proofs.Computed.{story}
use Rattle.tpl_examples.proofs.children.child_that_is_not_started.Goals as goal

pub returns : goal.returns
returns c = story _ _ _ refl (search rules)
