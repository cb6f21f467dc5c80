use Rattle.std.proofs.Common.{sym, subst, true, arith, ◌+◌}
use Rattle.tpl_model.specs.declared.claim.Property.{Property}
use Rattle.tpl_model.specs.declared.ids.TaskId.{TaskId}
use Rattle.tpl_model.specs.Certificate.{Assumed}
use Rattle.tpl_model.specs.TokenRules.{assumed_with_tokens}
use Rattle.tpl_graph.specs.Fits.{TasksOf}
use Rattle.tpl_laws.specs.Verdict.{leaves}
use Rattle.tpl_laws.specs.TokenVerdict.{token_tree_fault}
use Rattle.tpl_token_check.specs.Faults.{FailingWithTokens}
use Rattle.tpl_token_check.proofs.TokenShapeLemmas.{at_most_729_leaves}
use Rattle.tpl_token_check.proofs.verdict.claim_fault.Goals as goal

pub tree_fault-requires-clause-check : goal.tree_fault-requires-clause-check
tree_fault-requires-clause-check c = record {
  tasks = subst (λ (p : Property TaskId). TasksOf c.args.graph.now.graph p) (sym c.body.ensures) c.requires.claim.tasks;
  below = c.requires.below;
  linked = c.requires.linked;
}

pub tree_fault-requires-clause-room : goal.tree_fault-requires-clause-room
tree_fault-requires-clause-room c = omega (arith, at_most_729_leaves c.args.tree.now c.requires.height)

pub returns : goal.returns
returns c =
    let g = c.args.graph.now.graph in
    let n = c.args.number in
    let tree = c.args.tree.now in
    subst (λ (p : Property TaskId). FailingWithTokens (token_tree_fault g p n (assumed_with_tokens g c.args.claim.now) 1 tree) (1 + leaves tree) c.tree_fault.result) c.body.ensures
    (subst (λ (a : Assumed). FailingWithTokens (token_tree_fault g c.body.result n (record { assumed = a; wins = λ m y. true }) 1 tree) (1 + leaves tree) c.tree_fault.result) c.assumed_for-assumed.ensures c.tree_fault.ensures)
