use Rattle.std.proofs.Common.{◌&&◌, filter, map, ap, ◌∙◌}
use Rattle.tpl_model.proofs.Truths.{and_assoc}
use Rattle.tpl_model.specs.declared.finals.Final.TheVariants.{RanToCompletion}
use Rattle.tpl_model.specs.Finals.{is_final}
use Rattle.tpl_draft.specs.Ids.{task_number}
use Rattle.tpl_model.specs.Graph.{some_in}
use Rattle.tpl_model.specs.Certificate.{end_left, may_end, plain}
use Rattle.tpl_token_leaf.specs.Leaf.{assumed_in, rows_in}
use Rattle.tpl_token_leaf.specs.LeafRules.{has_to_end_as}
use Rattle.tpl_token_leaf.proofs.EndLemmas.{ends_left}
use Rattle.tpl_token_leaf.proofs.MatchedKinds.{at_kind}
use Rattle.tpl_token_leaf.proofs.ends.demanded.Goals as goal

pub returns-in-Root : goal.returns-in-Root
returns-in-Root c f =
    ends_left c.args.leaf.now c.args.task.0 c.args.ways.now c.requires.ways f ∙ at_kind c.args.leaf.now c.args.task.0 _ c.in-Root.ensures.kind (λ k. has_to_end_as c.args.leaf.now c.args.task.0 k f)

pub returns-in-Child : goal.returns-in-Child
returns-in-Child c f =
    ends_left c.args.leaf.now c.args.task.0 c.args.ways.now c.requires.ways f ∙ at_kind c.args.leaf.now c.args.task.0 _ c.in-Child.ensures.kind (λ k. has_to_end_as c.args.leaf.now c.args.task.0 k f)

pub returns-in-Then : goal.returns-in-Then
returns-in-Then c f =
    ends_left c.args.leaf.now c.args.task.0 c.args.ways.now c.requires.ways f ∙ at_kind c.args.leaf.now c.args.task.0 _ c.in-Then.ensures.kind (λ k. has_to_end_as c.args.leaf.now c.args.task.0 k f)

pub returns-in-All : goal.returns-in-All
returns-in-All c f =
    c.left.ensures f
    ∙ (ap (λ z. z && end_left (assumed_in c.args.leaf.now).assumed c.args.task.0 f) (c.all_end.ensures f) ∙ at_kind c.args.leaf.now c.args.task.0 _ c.in-All.ensures.kind (λ k. has_to_end_as c.args.leaf.now c.args.task.0 k f))

pub returns-in-Any : goal.returns-in-Any
returns-in-Any c f =
    let l = assumed_in c.args.leaf.now in
    let t = c.args.task.0 in
    let args = filter (l.wins t) (map task_number c.in-Any.args.now) in
    c.left-in-Any.ensures f
    ∙ (ap (λ z. z && end_left l.assumed t f) (c.any_end.ensures f)
    ∙ (and_assoc (is_final RanToCompletion f) (some_in (may_end (plain (rows_in c.args.leaf.now))) args) (end_left l.assumed t f)
    ∙ at_kind c.args.leaf.now t _ c.in-Any.ensures.kind (λ k. has_to_end_as c.args.leaf.now t k f)))
