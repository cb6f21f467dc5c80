use Rattle.std.proofs.Common.{arith}
use Rattle.tpl_model.proofs.Lists.{deep_in}
use Rattle.tpl_model.proofs.extent.+room.Goals as goal

pub room_behind-room_behind_statement-requires : goal.room_behind-room_behind_statement-requires
room_behind-room_behind_statement-requires t c =
    (omega (arith, c.decreases, deep_in _ _ _ _ c.loop-statement.invariant.whole c.loop-statement-test.true c.statement-item.is), c.loop-statement.invariant.some)
