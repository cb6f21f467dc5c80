use Rattle.std.proofs.Common.{◌-◌, ◌<◌, sym, ◌∙◌, arith}
use Rattle.tpl_laws.specs.RowTests.{is_below}
use Rattle.tpl_laws.specs.LeastRows.{end_step}
use Rattle.tpl_checker.proofs.Settling.{below_it}
use Rattle.tpl_token_check.specs.Case.{assumed_by, graph_by}
use Rattle.tpl_token_check.proofs.StepLemmas.{down_with, down_without}
use Rattle.tpl_token_check.proofs.least.end_below.Goals as goal

pub loop-number-preserved-in-Continue-1 : goal.loop-number-preserved-in-Continue-1
loop-number-preserved-in-Continue-1 c =
    let some : 0 < c.loop-number.number = omega arith in
    let test = c.contains.ensures.member ∙ below_it (graph_by c.args.case.now) c.args.case.now.below.now c.args.task.0 c.of-below.result.now c.requires.case.below c.valid_law.ensures.graph c.requires.task c.of-below.ensures (c.loop-number.number - 1) in
    record {
      rows = c.in_ok-end.ensures.kept;
      same =
          down_with (is_below (graph_by c.args.case.now) c.args.task.0) (end_step (graph_by c.args.case.now) (assumed_by c.args.case.now) c.args.case.now.property) c.loop-number.number c.loop-number.rows.rows.items c.end.new.rows.rows.items some (sym test ∙ c.if-contains.true) c.in_ok-end.ensures.same
          ∙ c.loop-number.invariant.same;
    }

pub loop-number-preserved : goal.loop-number-preserved
loop-number-preserved c =
    let some : 0 < c.loop-number.number = omega arith in
    let test = c.contains.ensures.member ∙ below_it (graph_by c.args.case.now) c.args.case.now.below.now c.args.task.0 c.of-below.result.now c.requires.case.below c.valid_law.ensures.graph c.requires.task c.of-below.ensures (c.loop-number.number - 1) in
    record {
      rows = c.loop-number.invariant.rows;
      same = down_without (is_below (graph_by c.args.case.now) c.args.task.0) (end_step (graph_by c.args.case.now) (assumed_by c.args.case.now) c.args.case.now.property) c.loop-number.number c.loop-number.rows.rows.items some (sym test ∙ c.if-contains.false) ∙ c.loop-number.invariant.same;
    }
