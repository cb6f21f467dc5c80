use Rattle.std.proofs.Common.{sym, ◌∙◌}
use Rattle.std.proofs.lemmas.Result.{err_from_is_err_and}
use Rattle.tpl_json.proofs.Endings.{finals_step, finals_stop, finals_done}
use Rattle.tpl_json.proofs.finals.finals_of.Goals as goal

pub returns-in_err-final_of-clause-gives : goal.returns-in_err-final_of-clause-gives
returns-in_err-final_of-clause-gives c =
    let p = err_from_is_err_and c.from_residual.result c.from_residual.ensures.1 in
    rw (p.1, p.2, ← c.loop-value.invariant) (finals_stop c.loop-value.finals c.args.values.now c.loop-value.value-index c.value-item.result c.in_err-final_of.field-0.0 c.loop-value-test.true c.value-item.is c.in_err-final_of.ensures.gives)

pub loop-value-preserved : goal.loop-value-preserved
loop-value-preserved c =
    rw c.with_final-finals.ensures (sym (finals_step c.loop-value.finals c.args.values.now c.loop-value.value-index c.value-item.result c.in_ok-final_of.field-0 c.loop-value-test.true c.value-item.is c.in_ok-final_of.ensures.gives) ∙ c.loop-value.invariant)

pub returns-clause-gives : goal.returns-clause-gives
returns-clause-gives c = sym c.loop-value.invariant ∙ finals_done c.loop-value.finals c.args.values.now c.loop-value.value-index c.loop-value-test.false
