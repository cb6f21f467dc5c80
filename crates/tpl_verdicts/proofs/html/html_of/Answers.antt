use Rattle.std.proofs.Common.{subst, ℕ, List, codes, string_bytes}
use Rattle.std.proofs.lemmas.Result.{IfOk-weaker}
use Rattle.tpl_reader.specs.Bytes.{behind_mark}
use Rattle.tpl_shown.specs.Shown.{IsDocumentPage}
use Rattle.tpl_verdicts.proofs.html.html_of.Goals as goal

pub returns : goal.returns
returns c =
    let document = behind_mark c.args.bytes.now in
    let lines = string_bytes c.in_ok-lines.lines in
    let json = string_bytes c.in_ok-verdicts.verdicts in
    IfOk-weaker c.document_page.result _ _ (λ text is. (
      lines,
      json,
      c.in_ok-lines.ensures,
      c.in_ok-verdicts.ensures,
      subst (λ (l : List ℕ). IsDocumentPage l document (codes "verdicts") json (string_bytes text)) c.as_str.ensures.value
          (subst (λ (j : List ℕ). IsDocumentPage c.as_str.result.now document (codes "verdicts") j (string_bytes text)) c.as_str-2.ensures.value is),
    )) c.document_page.ensures
