use Rattle.std.proofs.Common.{refl}
use Rattle.tpl_parts.specs.Tasks.{task_at}
use Rattle.tpl_parts.proofs.tasks.task_of.Goals as goal

pub returns : goal.returns
unfolding task_at
returns c = rw (c.in_ok-name.ensures.gives, c.in_ok-word.ensures.gives, c.in_ok-note_of.ensures.gives, c.in_ok-kind.ensures, c.in_ok-name-2.ensures.ok) refl
