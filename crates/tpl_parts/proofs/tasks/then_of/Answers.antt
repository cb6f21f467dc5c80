use Rattle.std.proofs.Common.{refl}
use Rattle.tpl_parts.specs.Tasks.{then_at}
use Rattle.tpl_parts.proofs.tasks.then_of.Goals as goal

pub returns : goal.returns
unfolding then_at
returns c = rw (← c.has_body_members.ensures, c.if-not-has_body_members.false, c.in_ok-antecedent.ensures.gives, c.in_ok-work.ensures, c.in_ok-antecedent-2.ensures.ok) refl
