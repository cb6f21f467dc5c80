use Rattle.std.proofs.Common.{ℕ, List, Bor}
use Rattle.tpl_journal.proofs.PartLemmas.{each_more, each_stops, each_written, nothing_written}
use Rattle.tpl_journal.proofs.parts.put.Goals as goal

pub loop-part-init : goal.loop-part-init
loop-part-init g c = nothing_written g.W.Write.contents c.args.to.now

pub loop-part-preserved : goal.loop-part-preserved
loop-part-preserved g c =
    each_more g.W.Write.contents (λ (part : Bor (List ℕ)). part.now) c.args.parts.now c.loop-part.part-index _ _ _ _ c.loop-part-test.true c.loop-part.invariant (rw c.as_bytes.ensures.value at c.in_ok-write_all.ensures.ok)

pub returns-in_err-write_all : goal.returns-in_err-write_all
returns-in_err-write_all g c =
    each_stops g.W.Write.contents (λ (part : Bor (List ℕ)). part.now) c.args.parts.now c.loop-part.part-index _ _ _ _ _ _ c.loop-part-test.true c.from_residual.ensures.1 c.loop-part.invariant (rw c.as_bytes.ensures.value at c.in_err-write_all.ensures.err)

pub returns : goal.returns
returns g c =
    each_written g.W.Write.contents (λ (part : Bor (List ℕ)). part.now) c.args.parts.now c.loop-part.part-index _ _ c.loop-part-test.false c.loop-part.invariant
