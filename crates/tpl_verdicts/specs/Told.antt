-- Verdicts, each with the claim that it is on.
use Rattle.std.specs.Prelude.{ℕ, Option, None, List, [], ◌∷◌, map, option_map, string_bytes}
use Rattle.tpl_model.specs.Claims.{Claim}
use Rattle.tpl_verify.specs.declared.verdict.Verdict.{Verdict}
use Rattle.tpl_verdicts.specs.declared.judgement.Judgement.{Judgement}
use Rattle.tpl_verdicts.specs.declared.judgement.Judgements.{Judgements}

-- a claim, its name if it has one, and the verdict on it
pub record Told : Type 0 where
  pub claim : Claim
  pub name : Option (List ℕ)
  pub verdict : Verdict

-- each claim with its name, if it has one, and the verdict on it
abbrev pub told : List Claim → List (Option (List ℕ)) → List Verdict → List Told
told [] names verdicts = []
told (claim ∷ claims) names [] = []
told (claim ∷ claims) [] (verdict ∷ verdicts) =
    record { claim = claim; name = None; verdict = verdict } ∷ told claims [] verdicts
told (claim ∷ claims) (name ∷ names) (verdict ∷ verdicts) =
    record { claim = claim; name = name; verdict = verdict } ∷ told claims names verdicts

-- what is told of one claim
abbrev pub told_of : Judgement → Told
told_of judgement = record {
  claim = judgement.claim.now;
  name = option_map (λ name. name.now) judgement.name;
  verdict = judgement.verdict.now;
}

-- what is told of all claims
abbrev pub all_told : Judgements → List Told
all_told all = told all.claims.now (map (λ name. option_map string_bytes name) all.names.now) all.verdicts.now
