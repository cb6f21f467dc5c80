use Rattle.tpl_journal.proofs.PartLemmas.{as_text}
use Rattle.tpl_journal.proofs.ReportLemmas.{head_is}
use Rattle.tpl_journal.proofs.report_lines.put_head.Goals as goal

pub returns : goal.returns
returns g c =
    as_text g.W.Write.contents _ _ _ _ c.put.result (head_is c.args.graph.now.names c.args.task.0 c.name_of.result.now c.args.word.now c.name_of.ensures.text) c.put.ensures
