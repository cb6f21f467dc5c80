-- Sets of the ways in which paths end.
use Rattle.std.specs.Prelude.{Bool}
use Rattle.tpl_model.specs.declared.verdict.Verdict.{Verdict}
use Rattle.tpl_model.specs.declared.verdict.Verdict.TheVariants.{Returned, Thrown, Acknowledged}
use Rattle.tpl_model.specs.declared.verdict.Verdicts.{Verdicts}

-- the verdict is in the set
abbrev pub has_verdict : Verdicts → Verdict → Bool
has_verdict s Returned = s.returned
has_verdict s Thrown = s.thrown
has_verdict s Acknowledged = s.acknowledged
