use Rattle.std.proofs.Common.{ap, ◌∙◌}
use Rattle.tpl_journal.specs.ReportText.{label_text}
use Rattle.tpl_journal.proofs.PartLemmas.{as_text}
use Rattle.tpl_journal.proofs.ReportLemmas.{exception_is}
use Rattle.tpl_journal.proofs.report_lines.put_exception.Goals as goal

pub returns : goal.returns
returns g c =
    let names = c.args.graph.now.names in
    as_text g.W.Write.contents _ _ _ _ c.put.result
    (exception_is names c.args.labels.now c.args.before.now c.args.behind.now c.args.task.0 c.name_of.result.now c.label_parts.result.0.now c.label_parts.result.1.now c.label_parts.result.2.now c.name_of.ensures.text (c.label_parts.ensures ∙ ap (label_text names) c.label_of.ensures)) c.put.ensures
