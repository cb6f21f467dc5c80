use Rattle.std.proofs.Common.{sym, arith}
use Rattle.tpl_model.proofs.Lists.{deep_in}
use Rattle.tpl_model.proofs.SameLists.{same_length}
use Rattle.tpl_model.proofs.same.+same.Goals as goal

pub same_body-returns-then-left-right : goal.same_body-returns-then-left-right
same_body-returns-then-left-right t c =
    (λ e. cc, λ e. absurd (c.if-left-right.true (same_length _ _ _ _ c.list-left.ensures c.list-right.ensures e)))

pub same_body-same_statement-requires : goal.same_body-same_statement-requires
same_body-same_statement-requires t c =
    (omega (arith, c.decreases, deep_in _ _ c.loop-i.i _ (sym c.list-left.ensures) (omega arith) c.index-left-i.is), tt)
