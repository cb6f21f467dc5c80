use Rattle.std.proofs.Common.{map, refl, ap, sym, ◌∙◌}
use Rattle.tpl_draft.specs.Ids.{task_number}
use Rattle.tpl_model.specs.Graph.{Root, WhenAll, WhenAny}
use Rattle.tpl_model.specs.TokenRules.{once_ended}
use Rattle.tpl_token_leaf.specs.Leaf.{rows_in}
use Rattle.tpl_token_leaf.specs.LeafRules.{begin_holds, begins_as}
use Rattle.tpl_token_leaf.proofs.FactTests.{begins_all}
use Rattle.tpl_token_leaf.proofs.before.holds_at_begin.Goals as goal

pub returns-in-Root : goal.returns-in-Root
returns-in-Root c = c.begins_within.ensures (begins_as c.args.leaf.now c.args.task.0 Root) c.none.ensures ∙ ap (begin_holds c.args.leaf.now c.args.task.0) c.in-Root.ensures.kind

pub returns-in-Child : goal.returns-in-Child
returns-in-Child c = c.holds_at_start.ensures ∙ ap (begin_holds c.args.leaf.now c.args.task.0) c.in-Child.ensures.kind

pub returns-in-Then : goal.returns-in-Then
returns-in-Then c =
    c.begins_within-in-Then.ensures (once_ended (rows_in c.args.leaf.now) c.in-Then.antecedent.0) c.once_ended.ensures ∙ ap (begin_holds c.args.leaf.now c.args.task.0) c.in-Then.ensures.kind

pub returns-in-All : goal.returns-in-All
returns-in-All c =
    sym (begins_all (rows_in c.args.leaf.now) c.args.task.0 (begins_as c.args.leaf.now c.args.task.0 (WhenAll (map task_number c.in-All.field-0.now))) (λ f. refl)) ∙ ap (begin_holds c.args.leaf.now c.args.task.0) c.in-All.ensures.kind

pub returns-in-Any : goal.returns-in-Any
returns-in-Any c =
    sym (begins_all (rows_in c.args.leaf.now) c.args.task.0 (begins_as c.args.leaf.now c.args.task.0 (WhenAny (map task_number c.in-Any.field-0.now))) (λ f. refl)) ∙ ap (begin_holds c.args.leaf.now c.args.task.0) c.in-Any.ensures.kind
