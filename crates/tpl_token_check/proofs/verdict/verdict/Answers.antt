use Rattle.std.proofs.Common.{Option, ap, sym, subst}
use Rattle.tpl_model.specs.declared.fault.CertFault.{CertFault}
use Rattle.tpl_laws.specs.Verdict.{no_fault}
use Rattle.tpl_laws.specs.TokenVerdict.{token_claims_fault, token_misfit}
use Rattle.tpl_checker.proofs.TreeLemmas.{or_else_first, or_else_second}
use Rattle.tpl_token_check.specs.Faults.{IsAnswer}
use Rattle.tpl_token_check.proofs.verdict.verdict.Goals as goal

pub returns-in-Some : goal.returns-in-Some
returns-in-Some c =
    let g = c.args.graph.now.graph in
    ap no_fault (or_else_first (token_misfit g 1 c.args.claims.now c.args.trees.now) (token_claims_fault g 1 c.args.claims.now c.args.trees.now) c.in-Some.fault (sym c.in-Some.ensures))

pub claims_fault-requires-clause-shapes : goal.claims_fault-requires-clause-shapes
claims_fault-requires-clause-shapes c = sym c.in-None.ensures

pub returns-in-None : goal.returns-in-None
returns-in-None c =
    let g = c.args.graph.now.graph in
    subst (λ (o : Option CertFault). IsAnswer (no_fault o) c.claims_fault.result)
    (sym (or_else_second (token_misfit g 1 c.args.claims.now c.args.trees.now) (token_claims_fault g 1 c.args.claims.now c.args.trees.now) (sym c.in-None.ensures))) c.claims_fault.ensures
