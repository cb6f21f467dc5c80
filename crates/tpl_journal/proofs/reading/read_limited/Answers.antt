use Rattle.tpl_journal.proofs.Known.{consumes_more}
use Rattle.tpl_journal.proofs.reading.read_limited.Goals as goal

pub returns-then-is_err-clause-front : goal.returns-then-is_err-clause-front
returns-then-is_err-clause-front g c =
    (_, consumes_more _ _ _ _ _ c.loop-buffer.invariant.known c.in-Ok.ensures.bytes.0)
