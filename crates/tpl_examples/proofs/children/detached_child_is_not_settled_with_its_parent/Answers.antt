use Rattle.std.proofs.Common.{rules, refl}
use Rattle.tpl_examples.proofs.Computed.{story}
use Rattle.tpl_examples.proofs.children.detached_child_is_not_settled_with_its_parent.Goals as goal

pub returns : goal.returns
returns c = story _ _ _ refl (search rules)
