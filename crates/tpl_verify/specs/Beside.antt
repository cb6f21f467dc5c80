-- Verdicts by their places.
use Rattle.std.specs.Prelude.{◌≡◌, ℕ, List, Some, slice_get}
use Rattle.tpl_model.specs.declared.rule_set.RuleSet.{RuleSet}
use Rattle.tpl_model.specs.Graph.{TaskGraph}
use Rattle.tpl_model.specs.Claims.{Claim}
use Rattle.tpl_verify.specs.declared.verdict.Verdict.{Verdict}
use Rattle.tpl_verify.specs.Verdicts.{IsVerdict}

-- a true verdict on the claim at this place
abbrev pub IsVerdictAt : RuleSet → TaskGraph → List Claim → ℕ → Verdict → Type 0
IsVerdictAt rules g claims i verdict = (claim : Claim) → slice_get claims i ≡ Some claim → IsVerdict rules g claim verdict
