use Rattle.tpl_journal.proofs.PartLemmas.{stops, then_text}
use Rattle.tpl_journal.proofs.report_lines.put_line.Goals as goal

pub returns-in_err-put_head : goal.returns-in_err-put_head
returns-in_err-put_head g c =
    stops g.W.Write.contents _ _ _ _ _ _ c.from_residual.ensures.1 (rw c.name.ensures at c.in_err-put_head.ensures.err)

pub returns-in_err-put_exceptions : goal.returns-in_err-put_exceptions
returns-in_err-put_exceptions g c =
    then_text g.W.Write.contents _ _ _ _ _ _ (rw c.name.ensures at c.in_ok-put_head.ensures.ok)
    (stops g.W.Write.contents _ _ _ _ _ _ c.from_residual-in_err-put_exceptions.ensures.1 c.in_err-put_exceptions.ensures.err)

pub returns : goal.returns
returns g c =
    then_text g.W.Write.contents _ _ _ _ _ c.put.result (rw c.name.ensures at c.in_ok-put_head.ensures.ok)
    (then_text g.W.Write.contents _ _ _ _ _ c.put.result c.in_ok-put_exceptions.ensures.ok c.put.ensures)
