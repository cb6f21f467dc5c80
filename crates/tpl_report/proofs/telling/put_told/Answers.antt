use Rattle.std.proofs.Common.{sym, subst}
use Rattle.tpl_reader.specs.SeenDocument.{doc_of}
use Rattle.tpl_report.specs.Reported.{told}
use Rattle.tpl_report.specs.Telling.{PutsTelling}
use Rattle.tpl_report.specs.declared.telling.Telling.{Telling}
use Rattle.tpl_report.proofs.RunLemmas.{report_is_of}
use Rattle.tpl_report.proofs.TellLemmas.{report_written}
use Rattle.tpl_report.proofs.telling.put_told.Goals as goal

pub put_report-requires : goal.put_report-requires
put_report-requires g c = report_is_of c.args.document.now.graph c.args.inputs.now (told c.args.report.now) c.requires.report c.requires.events

pub returns-in-Report : goal.returns-in-Report
returns-in-Report g c =
    let doc = doc_of c.args.document.now in
    let report = told c.args.report.now in
    subst (λ (t : Telling). PutsTelling t doc c.args.inputs.now report g.O.Write.contents c.args.to.now c.put_report.new.to c.put_report.result) (sym c.in-Report.is)
    (report_written doc c.args.inputs.now report g.O.Write.contents c.args.to.now c.put_report.new.to c.put_report.result c.put_report.ensures)
