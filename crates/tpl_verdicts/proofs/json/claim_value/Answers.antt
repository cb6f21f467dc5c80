use Rattle.std.proofs.Common.{subst}
use Rattle.tpl_verify.specs.declared.verdict.Verdict.{Verdict}
use Rattle.tpl_verify.specs.Verdicts.{IsVerdict}
use Rattle.tpl_verdicts.proofs.json.claim_value.Goals as goal

pub holding_value-requires-clause-held : goal.holding_value-requires-clause-held
holding_value-requires-clause-held c =
    let it = c.args.judgement.now in
    subst (λ (v : Verdict). IsVerdict it.searched.rules it.graph.now.graph it.claim.now v) c.in-Holds.is c.requires.verdict

pub failing_value-requires-clause-events : goal.failing_value-requires-clause-events
failing_value-requires-clause-events c =
    let g = c.args.judgement.now.graph.now.graph in
    let refutes = subst (λ (v : Verdict). IsVerdict c.args.judgement.now.searched.rules g c.args.judgement.now.claim.now v) c.in-Fails.is c.requires.verdict in
    c.spells_run.ensures g _ _ refutes.run refutes.seats
