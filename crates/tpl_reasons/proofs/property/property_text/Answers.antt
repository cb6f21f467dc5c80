use Rattle.std.proofs.Common.{sym}
use Rattle.tpl_reasons.proofs.property.property_text.Goals as goal

pub returns-in-After : goal.returns-in-After
returns-in-After c =
    rw (c.in-After.is, sym c.name-first.ensures, sym c.name-second.ensures) c.format-in-After.ensures.ok

pub returns-in-Never : goal.returns-in-Never
returns-in-Never c = rw (c.in-Never.is, sym c.name-task-in-Never.ensures) c.format-in-Never.ensures.ok

pub returns-in-Excludes : goal.returns-in-Excludes
returns-in-Excludes c =
    rw (c.in-Excludes.is, sym c.name-one.ensures, sym c.name-other.ensures) c.format-in-Excludes.ensures.ok
