use Rattle.std.proofs.Common.{◌≤◌, ◌+◌, ap, sym, subst, arith, length}
use Rattle.std.proofs.lemmas.Result.{err_from_is_err_and}
use Rattle.tpl_model.specs.Certificate.{Tree}
use Rattle.tpl_trees.specs.Heights.{height}
use Rattle.tpl_laws.specs.Verdict.{no_fault, leaves}
use Rattle.tpl_laws.specs.TokenVerdict.{}
use Rattle.tpl_checker.proofs.TreeLemmas.{none_fails, tree_there}
use Rattle.tpl_token_check.proofs.TokenShapeLemmas.{finds_token_misfits}
use Rattle.tpl_token_check.proofs.TokenTreeLemmas.{claim_answers, claim_proved, finds_token_faults}
use Rattle.tpl_token_check.proofs.verdict.claims_fault.Goals as goal

pub claim_fault-requires-clause-height : goal.claim_fault-requires-clause-height
claim_fault-requires-clause-height c =
    let lt = tree_there (finds_token_misfits c.args.graph.now.graph) c.loop-at.invariant c.loop-at-test.true in
    subst (λ (z : Tree). height z ≤ 6) (sym c.index-trees-at.is) (c.requires.trees c.loop-at.at c.index-trees-at.result lt)

pub returns-in_err-claim_fault : goal.returns-in_err-claim_fault
returns-in_err-claim_fault c =
    let p = err_from_is_err_and c.from_residual.result c.from_residual.ensures.1 in
    rw (p.1, p.2)
    (claim_answers c.args.graph.now.graph c.loop-at.invariant c.loop-at-test.true c.index-claims-at.result c.index-trees-at.result c.index-claims-at.is c.index-trees-at.is (1 + leaves c.index-trees-at.result) c.in_err-claim_fault.field-0.0 c.in_err-claim_fault.ensures)

pub loop-at-preserved : goal.loop-at-preserved
loop-at-preserved c = claim_proved c.args.graph.now.graph c.loop-at.invariant c.loop-at-test.true c.index-claims-at.result c.index-trees-at.result c.index-claims-at.is c.index-trees-at.is c.in_ok-claim_fault.ensures.0

pub returns : goal.returns
returns c =
    let le : length c.args.claims.now ≤ c.loop-at.at = omega arith in
    ap no_fault (none_fails (finds_token_faults c.args.graph.now.graph) le c.loop-at.invariant)
