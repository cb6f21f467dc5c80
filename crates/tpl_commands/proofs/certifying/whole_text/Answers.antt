use Rattle.std.proofs.Common.{◌≡◌, Some, List, ℕ, string_bytes, subst, sym}
use Rattle.std.proofs.lemmas.Str.{IsUtf8-string_bytes}
use Rattle.serde_json.specs.Read.{read}
use Rattle.serde_json.specs.View.{view}
use Rattle.tpl_reader.specs.Bytes.{behind_mark}
use Rattle.tpl_reader.specs.Laws.{HasCertificate}
use Rattle.tpl_reader.proofs.Marked.{reads_text}
use Rattle.tpl_commands.specs.Proof.{proof_data, rules_for, trees_of}
use Rattle.tpl_commands.proofs.LineBreak.{read_with_line_break}
use Rattle.tpl_commands.proofs.Whole.{whole_depth}
use Rattle.tpl_commands.proofs.certifying.whole_text.Goals as goal

pub returns-clause-holds : goal.returns-clause-holds
returns-clause-holds c =
    let names = c.args.graph.now.names in
    let proof = c.args.proof.now in
    let value = view c.in_ok-value.value in
    let with = view c.in_ok-with_certificate.field-0 in
    let has : HasCertificate value (proof_data names proof) with = rw c.in_ok-certificate.ensures.written at c.in_ok-with_certificate.ensures in
    let back = c.in_ok-text.ensures.reads_back (whole_depth (rules_for proof) names (trees_of proof) (behind_mark c.args.bytes.now) value with c.limits_law.ensures c.in_ok-value.ensures.reads.1 has) in
    let line = read_with_line_break (string_bytes c.in_ok-text.text) with c.in_ok-text.ensures.compact back in
    (value, with, c.in_ok-value.ensures.reads, reads_text (string_bytes c.push_str.new.self) with (IsUtf8-string_bytes c.push_str.new.self) (subst (λ (s : List ℕ). read s ≡ Some with) (sym c.in_ok-push_str.ensures.bytes) line), has)
