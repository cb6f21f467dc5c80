-- True verdicts on claims.
use Rattle.std.specs.List.{All, AllZip}
use Rattle.tpl_graph.specs.Fits.{Fits}
use Rattle.tpl_verify.specs.Verdicts.{IsVerdict}
use Rattle.tpl_verdicts.specs.declared.judgement.Judgement.{Judgement}
use Rattle.tpl_verdicts.specs.declared.judgement.Judgements.{Judgements}

-- the claim can be asked of the graph, and the verdict on it is true
pub record IsRight (judgement : Judgement) : Type 0 where
  pub fits : Fits judgement.graph.now.graph judgement.claim.now
  pub verdict : IsVerdict judgement.searched.rules judgement.graph.now.graph judgement.claim.now judgement.verdict.now

-- the claims can be asked of the graph, and the verdicts on them are true
pub record AreRight (judgements : Judgements) : Type 0 where
  pub fits : All (Fits judgements.graph.now.graph) judgements.claims.now
  pub verdicts : AllZip (IsVerdict judgements.searched.rules judgements.graph.now.graph) judgements.claims.now judgements.verdicts.now
