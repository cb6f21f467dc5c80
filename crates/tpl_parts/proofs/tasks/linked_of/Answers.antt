use Rattle.std.proofs.Common.{refl}
use Rattle.tpl_parts.specs.Tasks.{linked_at}
use Rattle.tpl_parts.proofs.tasks.linked_of.Goals as goal

pub returns : goal.returns
unfolding linked_at
returns c = rw (← c.has_only.ensures, c.if-not-has_only.false, c.in_ok-name.ensures.gives, c.in_ok-list.ensures.gives, c.in_ok-linked.ensures, c.in_ok-name-2.ensures.ok) refl
