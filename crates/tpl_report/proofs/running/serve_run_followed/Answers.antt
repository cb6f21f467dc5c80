use Rattle.std.proofs.Common.{Some, sym, ◌∙◌}
use Rattle.tpl_reader.specs.SeenDocument.{doc_of}
use Rattle.tpl_report.specs.Prevents.{Prevents}
use Rattle.tpl_report.proofs.RunLemmas.{serves}
use Rattle.tpl_report.proofs.running.serve_run_followed.Goals as goal

pub returns-in-Some : goal.returns-in-Some
returns-in-Some g c =
    serves c.args.telling (doc_of c.args.document.now) (Some c.in-Some.inputs) c.args.crew.workers (Prevents g.W.Item.site g.W.Item.may_fail c.args.items.items) g.O.Write.contents c.args.to.now c.check_and_run.new.to c.check_and_run.result (sym c.inputs.ensures ∙ c.in-Some.is) c.check_and_run.ensures
