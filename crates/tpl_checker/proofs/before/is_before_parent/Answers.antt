use Rattle.std.proofs.Common.{ap, ◌∙◌, sym}
use Rattle.tpl_model.specs.Members.{mem}
use Rattle.tpl_model.specs.Graph.{Child}
use Rattle.tpl_model.specs.Certificate.{row, plain}
use Rattle.tpl_laws.specs.RowTests.{all_in, before_by, by_parent}
use Rattle.tpl_checker.proofs.Basics.{all_true}
use Rattle.tpl_checker.proofs.before.is_before_parent.Goals as goal

pub returns-in-None : goal.returns-in-None
returns-in-None c =
    sym (all_true (before_by c.args.graph.now.graph (plain c.args.rows.now) c.args.task.0 Child) (row (plain c.args.rows.now) c.args.task.0).before (λ x. ap (λ o. by_parent o (λ p. mem x (row (plain c.args.rows.now) p).before)) (sym c.in-None.ensures.parent)))

pub returns-in-Some : goal.returns-in-Some
returns-in-Some c =
    c.within.ensures (before_by c.args.graph.now.graph (plain c.args.rows.now) c.args.task.0 Child) (λ x. ap (mem x) c.before_of-in-Some.ensures ∙ ap (λ o. by_parent o (λ p. mem x (row (plain c.args.rows.now) p).before)) c.in-Some.ensures.parent)
    ∙ ap (all_in (before_by c.args.graph.now.graph (plain c.args.rows.now) c.args.task.0 Child)) c.before_of.ensures
