use Rattle.std.proofs.Common.{rules, refl}
use Rattle.tpl_examples.proofs.Computed.{story}
use Rattle.tpl_examples.proofs.claims.unstarted_child_is_settled_before.Goals as goal

pub returns : goal.returns
returns c = (story _ _ _ refl (search rules), story _ _ _ refl (search rules))
