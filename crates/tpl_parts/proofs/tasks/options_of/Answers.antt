use Rattle.std.proofs.Common.{sym, ◌∙◌}
use Rattle.std.proofs.lemmas.Result.{err_from_is_err_and}
use Rattle.tpl_parts.proofs.OptionWords.{options_step, options_stop, options_done}
use Rattle.tpl_parts.proofs.tasks.options_of.Goals as goal

pub returns-in_err-option_of-clause-gives : goal.returns-in_err-option_of-clause-gives
returns-in_err-option_of-clause-gives c =
    let p = err_from_is_err_and c.from_residual.result c.from_residual.ensures.1 in
    rw (p.1, p.2, ← c.loop-value.invariant) (options_stop c.loop-value.options c.args.values.now c.loop-value.value-index c.value-item.result c.in_err-option_of.field-0.0 c.loop-value-test.true c.value-item.is c.in_err-option_of.ensures.gives)

pub loop-value-preserved : goal.loop-value-preserved
loop-value-preserved c =
    rw c.union-options.ensures (sym (options_step c.loop-value.options c.args.values.now c.loop-value.value-index c.value-item.result c.in_ok-option_of.field-0 c.loop-value-test.true c.value-item.is c.in_ok-option_of.ensures.gives) ∙ c.loop-value.invariant)

pub returns-clause-gives : goal.returns-clause-gives
returns-clause-gives c = sym c.loop-value.invariant ∙ options_done c.loop-value.options c.args.values.now c.loop-value.value-index c.loop-value-test.false
