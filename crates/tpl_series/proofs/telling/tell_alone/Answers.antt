use Rattle.tpl_series.proofs.telling.tell_alone.Goals as goal

pub returns-in-Err : goal.returns-in-Err
returns-in-Err g c = c.in-Err.ensures.told c.args.to.now c.loop-place.invariant.1
