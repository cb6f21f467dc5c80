use Rattle.tpl_model.specs.declared.rule_set.RuleSet.TheVariants.{WithoutTokens}
use Rattle.std.proofs.Common.{◌≡◌, ◌+◌, ◌≤◌, ap, sym, subst, ◌∙◌, arith, slice_index_or}
use Rattle.std.proofs.lemmas.Result.{err_from_is_err_and}
use Rattle.tpl_model.specs.Certificate.{Tree, assumed_for}
use Rattle.tpl_trees.specs.Heights.{height}
use Rattle.tpl_laws.specs.Verdict.{no_fault, tree_fault}
use Rattle.tpl_checker.specs.Assumptions.{assumed_of}
use Rattle.tpl_checker.proofs.ShapeLemmas.{at_most_729_leaves, finds_misfits}
use Rattle.tpl_checker.proofs.TreeLemmas.{claim_fails, claim_next, fault_of_claim, finds_faults, tree_there}
use Rattle.tpl_checker.proofs.verdict.claims_fault.Goals.{After-tree_fault}
use Rattle.tpl_checker.proofs.verdict.claims_fault.Goals as goal

pub tree_fault-requires-clause-room : goal.tree_fault-requires-clause-room
tree_fault-requires-clause-room c =
    let lt = tree_there (finds_misfits c.args.graph.now.graph) c.loop-at.invariant.0 c.loop-at-test.true in
    let t = c.index-trees-at.result in
    omega (arith, at_most_729_leaves t (subst (λ (z : Tree). height z ≤ 6) (sym c.index-trees-at.is) (c.requires.trees c.loop-at.at t lt)))

-- the fault of the tree that was looked at is that of the list's
same_fault : (c : After-tree_fault) → tree_fault c.args.graph.now.graph c.body.result (c.loop-at.at + 1) (assumed_of c.assumed_for-given.result) 1 c.index-trees-at.result
    ≡ fault_of_claim c.args.graph.now.graph (c.loop-at.at + 1) (slice_index_or c.args.claims.now c.loop-at.at c.index-claims-at.result) (slice_index_or c.args.trees.now c.loop-at.at c.index-trees-at.result)
same_fault c =
    λ i. tree_fault c.args.graph.now.graph ((c.body.ensures ∙ ap (λ z. z.body) c.index-claims-at.is) i) (c.loop-at.at + 1)
    ((c.assumed_for-given.ensures ∙ ap (assumed_for WithoutTokens c.args.graph.now.graph) c.index-claims-at.is) i) 1 (c.index-trees-at.is i)

pub returns-in_err-tree_fault : goal.returns-in_err-tree_fault
returns-in_err-tree_fault c =
    let p = err_from_is_err_and c.from_residual.result c.from_residual.ensures.1 in
    rw (p.1, p.2)
    (ap no_fault
    (sym (claim_fails (finds_misfits c.args.graph.now.graph) c.loop-at.invariant.0 c.loop-at-test.true (finds_faults c.args.graph.now.graph) c.index-claims-at.result c.index-trees-at.result c.in_err-tree_fault.field-0.0
    (sym (same_fault (goal.at.returns-in_err-tree_fault c).After-tree_fault) ∙ c.in_err-tree_fault.ensures.fault))))

pub loop-at-preserved : goal.loop-at-preserved
loop-at-preserved c = (
  claim_next (finds_misfits c.args.graph.now.graph) c.loop-at.invariant.0 c.loop-at-test.true (finds_faults c.args.graph.now.graph) c.index-claims-at.result c.index-trees-at.result
      (sym (same_fault (goal.at.loop-at-preserved c).After-tree_fault) ∙ c.in_ok-tree_fault.ensures.fault.0),
  c.in_ok-tree_fault.ensures.last,
)
