use Rattle.std.proofs.Common.{List, ℕ, ◌≤◌, length, string_bytes, subst, ap, arith}
use Rattle.tpl_commands.specs.Responding.{Puts}
use Rattle.tpl_commands.specs.declared.exit.Exit.{Exit}
use Rattle.tpl_model.specs.declared.event.Event.{Event}
use Rattle.tpl_reader.specs.Document.{longest}
use Rattle.tpl_reader.specs.SeenDocument.{doc_of}
use Rattle.tpl_verify.specs.Filled.{IsTextOf}
use Rattle.tpl_report.specs.Reported.{told}
use Rattle.tpl_report.specs.Telling.{with_events}
use Rattle.tpl_report.proofs.TellLemmas.{whole_written}
use Rattle.tpl_report.proofs.telling.put_document.Goals as goal

pub returns : goal.returns
returns g c =
    let doc = doc_of c.args.document.now in
    let inputs = c.args.inputs.now in
    let report = told c.args.report.now in
    let text = string_bytes c.in-Ok.text in
    let of_text = subst (λ (events : List Event). IsTextOf text (with_events doc inputs events)) c.as_slice.ensures.value c.in-Ok.ensures in
    let short : length text ≤ longest = let same = ap length c.as_bytes.ensures.value in omega (arith, same, c.as_bytes.ensures.len, c.len.ensures, c.if-len-gt-LONGEST.false) in
    let puts = subst (λ (e : Exit). Puts g.O.Write.contents c.args.to.now c.put-2.new.to e text c.put-2.result) c.report_exit.ensures
    (subst (λ (written : List ℕ). Puts g.O.Write.contents c.args.to.now c.put-2.new.to c.report_exit.result written c.put-2.result) c.as_bytes.ensures.value c.put-2.ensures) in
    whole_written c.args.bytes doc inputs report text g.O.Write.contents c.args.to.now c.put-2.new.to c.put-2.result c.one_document.ensures.one c.is_bounded.ensures c.requires.report c.requires.events of_text short puts
