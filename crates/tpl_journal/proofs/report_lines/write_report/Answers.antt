use Rattle.tpl_journal.proofs.PartLemmas.{stops, then_text}
use Rattle.tpl_journal.proofs.report_lines.write_report.Goals as goal

pub returns-in_err-put_complete : goal.returns-in_err-put_complete
returns-in_err-put_complete g c =
    stops g.W.Write.contents _ _ _ _ _ _ c.from_residual.ensures.1 c.in_err-put_complete.ensures.err

pub returns-in_err-put_lines : goal.returns-in_err-put_lines
returns-in_err-put_lines g c =
    then_text g.W.Write.contents _ _ _ _ _ _ c.in_ok-put_complete.ensures.ok
    (stops g.W.Write.contents _ _ _ _ _ _ c.from_residual-in_err-put_lines.ensures.1 c.in_err-put_lines.ensures.err)

pub returns-in_err-put_exceptions : goal.returns-in_err-put_exceptions
returns-in_err-put_exceptions g c =
    then_text g.W.Write.contents _ _ _ _ _ _ c.in_ok-put_complete.ensures.ok
    (then_text g.W.Write.contents _ _ _ _ _ _ c.in_ok-put_lines.ensures.ok
    (stops g.W.Write.contents _ _ _ _ _ _ c.from_residual-in_err-put_exceptions.ensures.1 c.in_err-put_exceptions.ensures.err))

pub returns-in_err-put_counts : goal.returns-in_err-put_counts
returns-in_err-put_counts g c =
    then_text g.W.Write.contents _ _ _ _ _ _ c.in_ok-put_complete.ensures.ok
    (then_text g.W.Write.contents _ _ _ _ _ _ c.in_ok-put_lines.ensures.ok
    (then_text g.W.Write.contents _ _ _ _ _ _ c.in_ok-put_exceptions.ensures.ok
    (stops g.W.Write.contents _ _ _ _ _ _ c.from_residual-in_err-put_counts.ensures.1 c.in_err-put_counts.ensures.err)))

pub returns : goal.returns
returns g c =
    then_text g.W.Write.contents _ _ _ _ _ c.write_journal.result c.in_ok-put_complete.ensures.ok
    (then_text g.W.Write.contents _ _ _ _ _ c.write_journal.result c.in_ok-put_lines.ensures.ok
    (then_text g.W.Write.contents _ _ _ _ _ c.write_journal.result c.in_ok-put_exceptions.ensures.ok
    (then_text g.W.Write.contents _ _ _ _ _ c.write_journal.result c.in_ok-put_counts.ensures.ok c.write_journal.ensures)))
