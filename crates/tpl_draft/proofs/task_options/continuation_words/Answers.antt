use Rattle.std.proofs.Common.{refl}
use Rattle.bitflags.specs.Sets.{find_row}
use Rattle.tpl_draft.proofs.task_options.continuation_words.Goals as goal

pub returns : goal.returns
unfolding find_row
returns c =
    rw (c.with.ensures, c.with-not_canceled.ensures, c.with-not_faulted.ensures, c.with-not_ran.ensures, c.with-lazy.ensures, c.task_words.ensures) refl
