use Rattle.std.proofs.Common.{◌≡◌, sym, ◌∙◌}
use Rattle.tpl_laws.specs.RowTests.{is_below}
use Rattle.tpl_laws.specs.LeastRows.{begin_step}
use Rattle.tpl_checker.proofs.Settling.{below_it}
use Rattle.tpl_token_check.specs.Case.{assumed_by, graph_by}
use Rattle.tpl_token_check.proofs.StepLemmas.{up_with, up_without}
use Rattle.tpl_token_check.proofs.least.begin_below.Goals.{then-contains, else-contains}
use Rattle.tpl_token_check.proofs.least.begin_below.Goals as goal

pub loop-number-preserved : goal.loop-number-preserved
loop-number-preserved c =
    let i = c.loop-number.number in
    let below = is_below (graph_by c.args.case.now) c.args.task.0 in
    let begins = begin_step (graph_by c.args.case.now) (assumed_by c.args.case.now) in
    let test : c.contains.result ≡ below i =
    c.contains.ensures.member ∙ below_it (graph_by c.args.case.now) c.args.case.now.below.now c.args.task.0 c.of-below.result.now c.requires.case.below c.valid_law.ensures.graph c.requires.task c.of-below.ensures i in
    elim c.if-contains.branch [
      | then-contains w ↦ rw w.rows-is (up_with below begins i c.args.rows.now.rows.items c.loop-number.invariant (sym test ∙ w.if-contains.true) w.begin.ensures)
      | else-contains w ↦ rw w.rows-is (up_without below begins i c.args.rows.now.rows.items c.loop-number.invariant (sym test ∙ w.if-contains.false))
    ]
