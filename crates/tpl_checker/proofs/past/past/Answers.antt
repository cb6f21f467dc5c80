use Rattle.std.proofs.Common.{◌&&◌, ℕ, Bool, map, ap, ◌∙◌}
use Rattle.tpl_model.specs.Members.{mem}
use Rattle.tpl_model.specs.Graph.{Root, WhenAll, WhenAny}
use Rattle.tpl_draft.specs.Ids.{task_number}
use Rattle.tpl_laws.specs.RowTests.{all_in, past_by}
use Rattle.tpl_checker.specs.Assumptions.{assumed_of}
use Rattle.tpl_checker.proofs.Basics.{members_of_it}
use Rattle.tpl_checker.proofs.Settling.{below_it, past_holds}
use Rattle.tpl_model.specs.Certificate.{plain}
use Rattle.tpl_checker.proofs.past.past.Goals as goal

pub returns-in-Root : goal.returns-in-Root
returns-in-Root c =
    c.within.ensures (past_by c.args.graph.now.graph (assumed_of c.args.assumed.now) (plain c.args.rows.now) c.args.task.0 Root) (below_it c.args.graph.now.graph c.args.below.now c.args.task.0 c.of.result.now c.requires.below c.valid_law.ensures.graph c.requires.task c.of.ensures)
    ∙ (λ i. all_in (past_by c.args.graph.now.graph (assumed_of c.args.assumed.now) (plain c.args.rows.now) c.args.task.0 (c.in-Root.ensures.kind i)) (c.past_of-past.ensures i))

pub returns-in-Child : goal.returns-in-Child
returns-in-Child c = c.is_past_child.ensures (assumed_of c.args.assumed.now) ∙ ap (past_holds c.args.graph.now.graph (assumed_of c.args.assumed.now) (plain c.args.rows.now) c.args.task.0) c.in-Child.ensures.kind

pub returns-in-Then : goal.returns-in-Then
returns-in-Then c = c.is_past_continuation.ensures ∙ ap (past_holds c.args.graph.now.graph (assumed_of c.args.assumed.now) (plain c.args.rows.now) c.args.task.0) c.in-Then.ensures.kind

pub returns-in-All : goal.returns-in-All
returns-in-All c =
    c.within-in-All.ensures (past_by c.args.graph.now.graph (assumed_of c.args.assumed.now) (plain c.args.rows.now) c.args.task.0 (WhenAll (map task_number c.in-All.args.now))) c.settled_after_some.ensures
    ∙ (λ i. all_in (past_by c.args.graph.now.graph (assumed_of c.args.assumed.now) (plain c.args.rows.now) c.args.task.0 (c.in-All.ensures.kind i)) (c.past_of-past.ensures i))

pub returns-in-Any : goal.returns-in-Any
returns-in-Any c =
    let test : ℕ → Bool = past_by c.args.graph.now.graph (assumed_of c.args.assumed.now) (plain c.args.rows.now) c.args.task.0 (WhenAny (map task_number c.in-Any.args.now)) in
    c.within-in-Any.ensures (λ x. mem x c.past_of-past.result.now && test x) c.settled_after_each.ensures
    ∙ (members_of_it test c.past_of-past.result.now ∙ (λ i. all_in (past_by c.args.graph.now.graph (assumed_of c.args.assumed.now) (plain c.args.rows.now) c.args.task.0 (c.in-Any.ensures.kind i)) (c.past_of-past.ensures i)))
