use Rattle.std.proofs.Common.{◌∙◌, subst, ℕ, List, codes, string_bytes}
use Rattle.tpl_model.specs.Claims.{Claim}
use Rattle.tpl_audit.specs.Audit.{IsVerdict}
use Rattle.tpl_reader.specs.Bytes.{behind_mark}
use Rattle.tpl_reader.specs.SeenDocument.{doc_of}
use Rattle.tpl_commands.specs.Recorded.{ended_of}
use Rattle.tpl_commands.specs.Rules.{rules_of}
use Rattle.tpl_shown.specs.Found.{IsFoundText}
use Rattle.tpl_shown.specs.Shown.{IsDocumentPage}
use Rattle.tpl_shown.proofs.answering.page_of_events.Goals as goal

pub returns : goal.returns
returns c =
    let document = behind_mark c.args.bytes.now in
    let text = string_bytes c.in_ok-text.text in
    let doc = doc_of c.args.document.now in
    let verdict = c.audit-verdict.result in
    let is : IsVerdict doc.graph.graph c.args.inputs.now c.args.events.now doc.claims (ended_of doc) verdict =
    rw (← c.copy.ensures, ← c.as_slice.ensures.value, ← c.ended_of.ensures) c.audit-verdict.ensures.verdict in
    record {
      verdict = verdict;
      audited = record { inputs = c.args.inputs.now; known = c.requires.inputs; events = c.args.events.now; journal = c.requires.journal; audited = is; sound = λ proved. c.audit-verdict.ensures.sound (rules_of doc) doc.certificate (rw c.as_slice.ensures.value proved) };
      ends = c.in_ok-lines.ensures.0;
      found = string_bytes c.in_ok-found.found;
      says = subst (λ (claims : List Claim). IsFoundText doc.graph claims c.args.inputs.now c.args.events.now verdict (string_bytes c.in_ok-found.found)) c.as_slice.ensures.value c.in_ok-found.ensures;
      page = subst (λ (l : List ℕ). IsDocumentPage l document (codes "audit") (string_bytes c.in_ok-found.found) text) (c.as_str.ensures.value ∙ c.in_ok-lines.ensures.1)
          (subst (λ (j : List ℕ). IsDocumentPage c.as_str.result.now document (codes "audit") j text) c.as_str-2.ensures.value c.in_ok-text.ensures);
    }
