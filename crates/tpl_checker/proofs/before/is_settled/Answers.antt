use Rattle.std.proofs.Common.{map, refl, ap, ◌∙◌, sym}
use Rattle.tpl_draft.specs.Ids.{task_number}
use Rattle.tpl_model.specs.Members.{mem}
use Rattle.tpl_model.specs.Graph.{Root, Continues, WhenAll, WhenAny}
use Rattle.tpl_model.specs.Certificate.{row, plain}
use Rattle.tpl_laws.specs.RowTests.{all_in, before_by}
use Rattle.tpl_checker.proofs.Basics.{all_true}
use Rattle.tpl_checker.proofs.Settling.{before_holds}
use Rattle.tpl_checker.proofs.before.is_settled.Goals as goal

pub returns-in-Root : goal.returns-in-Root
returns-in-Root c =
    c.within.ensures (before_by c.args.graph.now.graph (plain c.args.rows.now) c.args.task.0 Root) (λ x. ap (mem x) c.empty.ensures) ∙ (λ i. all_in (before_by c.args.graph.now.graph (plain c.args.rows.now) c.args.task.0 (c.in-Root.ensures.kind i)) (c.before_of-before.ensures i))

pub returns-in-Then : goal.returns-in-Then
returns-in-Then c =
    c.within-in-Then.ensures (before_by c.args.graph.now.graph (plain c.args.rows.now) c.args.task.0 (Continues c.in-Then.antecedent.0)) c.settled_after.ensures
    ∙ (λ i. all_in (before_by c.args.graph.now.graph (plain c.args.rows.now) c.args.task.0 (c.in-Then.ensures.kind i)) (c.before_of-before.ensures i))

pub returns-in-Child : goal.returns-in-Child
returns-in-Child c = c.is_before_parent.ensures ∙ ap (before_holds c.args.graph.now.graph (plain c.args.rows.now) c.args.task.0) c.in-Child.ensures.kind

pub returns-in-All : goal.returns-in-All
returns-in-All c =
    sym (all_true (before_by c.args.graph.now.graph (plain c.args.rows.now) c.args.task.0 (WhenAll (map task_number c.in-All.field-0.now))) (row (plain c.args.rows.now) c.args.task.0).before (λ x. refl)) ∙ ap (before_holds c.args.graph.now.graph (plain c.args.rows.now) c.args.task.0) c.in-All.ensures.kind

pub returns-in-Any : goal.returns-in-Any
returns-in-Any c =
    sym (all_true (before_by c.args.graph.now.graph (plain c.args.rows.now) c.args.task.0 (WhenAny (map task_number c.in-Any.field-0.now))) (row (plain c.args.rows.now) c.args.task.0).before (λ x. refl)) ∙ ap (before_holds c.args.graph.now.graph (plain c.args.rows.now) c.args.task.0) c.in-Any.ensures.kind
