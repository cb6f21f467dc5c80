use Rattle.tpl_parts.specs.Tasks.{args_at}
use Rattle.tpl_parts.proofs.tasks.args_of.Goals as goal

pub returns : goal.returns
unfolding args_at
returns c = rw (← c.has_task_members.ensures, c.if-not-has_task_members.false, c.in_ok-list.ensures.gives) c.owned_texts.ensures
