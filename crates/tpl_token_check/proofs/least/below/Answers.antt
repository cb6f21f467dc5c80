use Rattle.std.proofs.Common.{List, length, sym, subst, ◌∙◌}
use Rattle.std.specs.Prelude.{IfOk}
use Rattle.tpl_model.specs.Certificate.{Row}
use Rattle.tpl_laws.specs.RowTests.{is_below}
use Rattle.tpl_laws.specs.LeastRows.{begin_step, end_step}
use Rattle.tpl_token_check.specs.Case.{assumed_by, begun_below, ended_below, graph_by}
use Rattle.tpl_token_check.specs.Rows.{AreRows}
use Rattle.tpl_token_check.proofs.StepLemmas.{none_down, none_up}
use Rattle.tpl_token_check.proofs.least.below.Goals as goal

pub returns-then-not-has_attached : goal.returns-then-not-has_attached
returns-then-not-has_attached c =
    let n = length (graph_by c.args.case.now).tasks in
    let none = c.has_attached.ensures c.if-not-has_attached.true in
    let test = is_below (graph_by c.args.case.now) c.args.task.0 in
    record {
      same = sym (none_down test (end_step (graph_by c.args.case.now) (assumed_by c.args.case.now) c.args.case.now.property) none n (begun_below c.args.case.now c.args.task.0 c.args.rows.now.rows.items) ∙ none_up test (begin_step (graph_by c.args.case.now) (assumed_by c.args.case.now)) none n c.args.rows.now.rows.items);
      kept = c.requires.rows;
    }

pub returns : goal.returns
returns c = subst (λ (xs : List Row). IfOk c.end_below.result (λ u. AreRows (graph_by c.args.case.now) (ended_below c.args.case.now c.args.task.0 xs) c.end_below.new.rows)) c.begin_below.ensures.same c.end_below.ensures
