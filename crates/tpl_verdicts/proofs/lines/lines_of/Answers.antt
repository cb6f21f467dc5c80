use Rattle.std.proofs.Common.{subst}
use Rattle.tpl_verify.specs.declared.verdict.Verdict.{Verdict}
use Rattle.tpl_verify.specs.Verdicts.{IsVerdict}
use Rattle.tpl_verdicts.proofs.lines.lines_of.Goals as goal

pub failing_lines-requires : goal.failing_lines-requires
failing_lines-requires c =
    let g = c.args.judgement.now.graph.now.graph in
    let refutes = subst (λ (v : Verdict). IsVerdict c.args.judgement.now.searched.rules g c.args.judgement.now.claim.now v) c.in-Fails.is c.requires.verdict in
    c.spells_run.ensures g _ _ refutes.run refutes.seats
