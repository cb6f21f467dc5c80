use Rattle.std.proofs.Common.{List, ap, subst, ◌∙◌}
use Rattle.std.specs.Prelude.{IfOk}
use Rattle.tpl_model.specs.Certificate.{Row}
use Rattle.tpl_laws.specs.LeastRows.{end_step}
use Rattle.tpl_token_check.specs.Case.{assumed_by, begun_below, ended_below, graph_by}
use Rattle.tpl_token_check.specs.Rows.{AreRows}
use Rattle.tpl_token_check.proofs.least.family.Goals as goal

pub returns : goal.returns
returns c =
    subst (λ (xs : List Row). IfOk c.end.result (λ u. AreRows (graph_by c.args.case.now) (end_step (graph_by c.args.case.now) (assumed_by c.args.case.now) c.args.case.now.property c.args.task.0 xs) c.end.new.rows))
    (c.in_ok-below.ensures.same ∙ ap (λ (xs : List Row). ended_below c.args.case.now c.args.task.0 (begun_below c.args.case.now c.args.task.0 xs)) c.begin.ensures.same) c.end.ensures
