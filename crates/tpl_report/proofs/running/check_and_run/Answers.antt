use Rattle.std.proofs.Common.{Bool, List, subst}
use Rattle.std.specs.Prelude.{IfOk, MatchResult}
use Rattle.tpl_commands.specs.Responding.{Puts}
use Rattle.tpl_reader.specs.SeenDocument.{doc_of}
use Rattle.tpl_report.specs.Made.{IsMadeBy}
use Rattle.tpl_report.specs.Prevents.{Prevents}
use Rattle.tpl_report.specs.Reported.{told}
use Rattle.tpl_report.specs.Running.{stop_exit, stop_text}
use Rattle.tpl_report.specs.Telling.{PutsTelling}
use Rattle.tpl_report.proofs.RunLemmas.{made_runs, refused}
use Rattle.tpl_report.proofs.running.check_and_run.Goals as goal

pub returns-in-Ok-verdict : goal.returns-in-Ok-verdict
returns-in-Ok-verdict g c =
    let doc = doc_of c.args.document.now in
    let made = c.report_on-made.ensures in
    let by = subst (λ tokens. IfOk c.report_on-made.result (λ r. IsMadeBy doc.graph.graph c.args.inputs c.args.crew.workers tokens r.journal.items)) c.requests-tokens.ensures.exact made.made in
    let puts = subst (λ (v : List Bool). MatchResult c.report_on-made.result (λ r. PutsTelling c.args.telling doc v (told r) g.O.Write.contents c.args.to.now c.put_made.new.to c.put_made.result) (λ stop. Puts g.O.Write.contents c.args.to.now c.put_made.new.to (stop_exit stop) (stop_text stop) c.put_made.result))
    c.copy-values.ensures c.put_made.ensures in
    made_runs c.args.telling doc c.args.inputs c.args.crew.workers (Prevents g.W.Item.site g.W.Item.may_fail c.args.items.items) c.report_on-made.result g.O.Write.contents c.args.to.now c.put_made.new.to c.put_made.result
    (rw c.in-Ok-verdict.is at c.in-Ok.ensures) made.report by made.stops puts

pub returns-in-Err-verdict : goal.returns-in-Err-verdict
returns-in-Err-verdict g c =
    let doc = doc_of c.args.document.now in
    refused c.args.telling doc c.args.inputs c.args.crew.workers (Prevents g.W.Item.site g.W.Item.may_fail c.args.items.items) c.in-Err-verdict.fault g.O.Write.contents c.args.to.now c.put_answer.new.to c.put_answer.result c.refused_answer.result (rw c.in-Err-verdict.is at c.in-Ok.ensures).0 c.refused_answer.ensures c.put_answer.ensures
