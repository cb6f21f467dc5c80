use Rattle.std.proofs.Common.{◌∙◌, [], true, length, subst}
use Rattle.tpl_model.specs.declared.claim.Property.{Property}
use Rattle.tpl_model.specs.declared.ids.TaskId.{TaskId}
use Rattle.tpl_model.specs.Graph.{TaskGraph}
use Rattle.tpl_model.specs.TokenRules.{LeafAssumed}
use Rattle.tpl_token_leaf.specs.Leaf.{leaf_assumed}
use Rattle.tpl_token_leaf.specs.Prelude.{narrowed_before}
use Rattle.tpl_token_check.specs.Case.{assumed_by}
use Rattle.tpl_token_check.specs.Unsplit.{AreSettled}
use Rattle.tpl_token_check.proofs.UnsplitLemmas.{settled_for}
use Rattle.tpl_token_check.proofs.unsplit.Unsplit.new.Goals as goal

pub returns-clause-unsplit : goal.returns-clause-unsplit
returns-clause-unsplit c =
    let g = c.args.graph.now.graph in
    let l = leaf_assumed c.narrowed-narrowed.result [] in
    let s = c.in_ok-settled.settled in
    let case = c.case_of.result in
    let by_graph = subst (λ (h : TaskGraph). AreSettled h (assumed_by case) case.property s) c.case_of.ensures.graph c.in_ok-settled.ensures in
    let by_assumed = subst (λ (k : LeafAssumed). AreSettled g k case.property s) c.case_of.ensures.assumed by_graph in
    let never = subst (λ (p : Property TaskId). AreSettled g l p s) c.case_of.ensures.property by_assumed in
    record {
      below = c.requires.below;
      linked = c.requires.linked;
      narrowed = λ i. record { assumed = (c.narrowed-narrowed.ensures ∙ (λ j. narrowed_before g (c.assumed.ensures j) (length g.tasks))) i; wins = λ n x. true };
      settled = λ p chain. settled_for g l (record { 0 = 0 }) p s chain never;
    }
