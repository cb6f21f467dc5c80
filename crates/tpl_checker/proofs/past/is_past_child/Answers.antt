use Rattle.std.proofs.Common.{◌||◌, ap, ◌∙◌, sym}
use Rattle.tpl_model.specs.Members.{mem}
use Rattle.tpl_model.specs.Graph.{Child}
use Rattle.tpl_model.specs.Certificate.{row, plain}
use Rattle.tpl_laws.specs.RowTests.{all_in, by_parent, is_below, past_by}
use Rattle.tpl_checker.proofs.Basics.{all_true}
use Rattle.tpl_checker.proofs.Settling.{below_it}
use Rattle.tpl_checker.proofs.past.is_past_child.Goals as goal

pub returns-in-None : goal.returns-in-None
returns-in-None c l =
    sym (all_true (past_by c.args.graph.now.graph l (plain c.args.rows.now) c.args.task.0 Child) (row (plain c.args.rows.now) c.args.task.0).past
    (λ x. ap (λ o. by_parent o (λ p. mem x (row (plain c.args.rows.now) p).before) || is_below c.args.graph.now.graph c.args.task.0 x) (sym c.in-None.ensures.parent)))

pub returns-in-Some : goal.returns-in-Some
returns-in-Some c l =
    let below = below_it c.args.graph.now.graph c.args.below.now c.args.task.0 c.of.result.now c.requires.below c.valid_law.ensures.graph c.requires.task c.of.ensures in
    c.within.ensures (past_by c.args.graph.now.graph l (plain c.args.rows.now) c.args.task.0 Child)
    (λ x. c.union.ensures.members x ∙ (λ i. (ap (mem x) c.before_of-before.ensures ∙ ap (λ o. by_parent o (λ p. mem x (row (plain c.args.rows.now) p).before)) c.in-Some.ensures.parent) i || below x i))
    ∙ ap (all_in (past_by c.args.graph.now.graph l (plain c.args.rows.now) c.args.task.0 Child)) c.past_of.ensures
