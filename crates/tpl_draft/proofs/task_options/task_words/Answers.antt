use Rattle.std.proofs.Common.{refl}
use Rattle.bitflags.specs.Sets.{find_row}
use Rattle.tpl_draft.proofs.task_options.task_words.Goals as goal

pub returns : goal.returns
unfolding find_row
returns c =
    rw (c.with.ensures, c.with-hidden.ensures, c.with-closed.ensures, c.with-attached.ensures, c.with-long.ensures, c.with-fair.ensures, c.empty.ensures) refl
