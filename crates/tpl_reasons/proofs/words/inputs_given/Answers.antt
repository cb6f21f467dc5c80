use Rattle.std.proofs.Common.{arith}
use Rattle.tpl_reasons.proofs.Givens.{inputs_more}
use Rattle.tpl_reasons.proofs.words.inputs_given.Goals as goal

pub loop-number-preserved : goal.loop-number-preserved
loop-number-preserved c =
    inputs_more c.args.inputs.now c.loop-number.number c.get.result c.loop-number.given.items c.push.new.self.items (omega arith) c.get.ensures c.loop-number.invariant c.in_ok-push.ensures.items
