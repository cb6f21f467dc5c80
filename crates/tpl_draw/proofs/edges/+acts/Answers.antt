use Rattle.std.proofs.Common.{arith}
use Rattle.std.proofs.lemmas.Result.{on_ok_weaker}
use Rattle.tpl_model.proofs.Lists.{falls_in}
use Rattle.tpl_draw.proofs.ActLemmas.{acts_step, acts_end}
use Rattle.tpl_draw.proofs.AddedLemmas.{both_added}
use Rattle.tpl_draw.proofs.edges.+acts.Goals as goal

pub add_acts-add_act-requires : goal.add_acts-add_act-requires
add_acts-add_act-requires t c =
    omega (arith, c.decreases, falls_in _ _ _ _ c.loop-statement.invariant.whole c.loop-statement-test.true c.statement-item.is)

pub add_acts-loop-statement-preserved : goal.add_acts-loop-statement-preserved
add_acts-loop-statement-preserved t c =
    acts_step _ _ _ _ _ _ _ _ c.loop-statement-test.true c.statement-item.is c.loop-statement.invariant c.in_ok-add_act.ensures

pub add_acts-returns : goal.add_acts-returns
add_acts-returns t c = acts_end _ _ _ _ _ _ c.loop-statement-test.false c.loop-statement.invariant

pub add_both-returns : goal.add_both-returns
add_both-returns t c = on_ok_weaker c.add_acts-2.result (both_added _ _ _ _ _ c.in_ok-add_acts.ensures) c.add_acts-2.ensures

pub add_act-returns-in-If : goal.add_act-returns-in-If
add_act-returns-in-If t c = rw c.in-If.is c.add_both.ensures

pub add_act-returns-in-When : goal.add_act-returns-in-When
add_act-returns-in-When t c = rw c.in-When.is c.add_both-in-When.ensures

pub add_act-returns-in-Start : goal.add_act-returns-in-Start
add_act-returns-in-Start t c = rw c.in-Start.is c.add_edge.ensures
