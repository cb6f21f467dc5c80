use Rattle.std.proofs.Common.{◌||◌, ◌&&◌, not, nat_eq, ap, ◌∙◌, sym}
use Rattle.tpl_model.specs.Members.{mem}
use Rattle.tpl_model.specs.Graph.{Continues}
use Rattle.tpl_model.specs.Certificate.{row, plain}
use Rattle.tpl_laws.specs.RowTests.{all_in, is_below, past_by}
use Rattle.tpl_checker.specs.Assumptions.{assumed_of}
use Rattle.tpl_checker.proofs.Settling.{below_it}
use Rattle.tpl_checker.proofs.past.is_past_continuation.Goals as goal

pub returns-then-may_end_early : goal.returns-then-may_end_early
returns-then-may_end_early c =
    let past = past_by c.args.graph.now.graph (assumed_of c.args.assumed.now) (plain c.args.rows.now) c.args.task.0 (Continues c.args.antecedent.0) in
    c.within.ensures past
    (λ x. below_it c.args.graph.now.graph c.args.below.now c.args.task.0 c.of.result.now c.requires.below c.valid_law.ensures.graph c.requires.task c.of.ensures x
    ∙ ap (λ z. (not z && (nat_eq x c.args.antecedent.0 || mem x (row (plain c.args.rows.now) c.args.antecedent.0).past)) || is_below c.args.graph.now.graph c.args.task.0 x) (sym c.if-may_end_early.true ∙ c.may_end_early.ensures))
    ∙ ap (all_in past) c.past_of-past.ensures

pub returns : goal.returns
returns c =
    let past = past_by c.args.graph.now.graph (assumed_of c.args.assumed.now) (plain c.args.rows.now) c.args.task.0 (Continues c.args.antecedent.0) in
    let below = below_it c.args.graph.now.graph c.args.below.now c.args.task.0 c.of-2.result.now c.requires.below c.valid_law.ensures.graph c.requires.task c.of-2.ensures in
    c.within-2.ensures past
    (λ x. c.union.ensures.members x
    ∙ ((λ i. c.settled_after.ensures x i || below x i)
    ∙ ap (λ z. (not z && (nat_eq x c.args.antecedent.0 || mem x (row (plain c.args.rows.now) c.args.antecedent.0).past)) || is_below c.args.graph.now.graph c.args.task.0 x) (sym c.if-may_end_early.false ∙ c.may_end_early.ensures)))
    ∙ ap (all_in past) c.past_of-past.ensures
