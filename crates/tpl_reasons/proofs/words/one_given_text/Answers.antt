use Rattle.std.proofs.Common.{sym}
use Rattle.tpl_reasons.proofs.words.one_given_text.Goals as goal

pub returns-in-Ended : goal.returns-in-Ended
returns-in-Ended c =
    rw (c.in-Ended.is, sym c.name-task.ensures, sym c.ends_text-ends.ensures) c.format-in-Ended.ensures.ok

pub returns-in-Succeeds : goal.returns-in-Succeeds
returns-in-Succeeds c = rw (c.in-Succeeds.is, sym c.name_of-site.ensures) c.format-in-Succeeds.ensures.ok
