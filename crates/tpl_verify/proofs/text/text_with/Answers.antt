use Rattle.std.proofs.Common.{◌≡◌, ◌∙◌, Some, ap, sym, string_bytes}
use Rattle.std.proofs.lemmas.Str.{IsUtf8-had}
use Rattle.serde_json.specs.Read.{read}
use Rattle.serde_json.specs.View.{view}
use Rattle.tpl_reader.specs.Document.{Reads}
use Rattle.tpl_reader.specs.SeenDocument.{doc_of}
use Rattle.tpl_reader.proofs.Marked.{reads_text}
use Rattle.tpl_verify.proofs.Filling.{run_depth, text_of}
use Rattle.tpl_commands.proofs.LineBreak.{read_with_line_break}
use Rattle.tpl_verify.proofs.text.text_with.Goals as goal

pub returns-clause-text : goal.returns-clause-text
returns-clause-text c =
    let names = c.args.document.now.graph.names.inputs in
    let journal = string_bytes c.args.journal in
    let old = view c.in_ok-value.value in
    let new = view c.in_ok-filled.field-0 in
    let start = view c.in_ok-start.start in
    let json = string_bytes c.in_ok-text.text in
    let text = string_bytes c.push_str.new.self in
    let shallow = run_depth names c.args.inputs.now journal old new start c.in_ok-value.ensures.nests c.in_ok-start.ensures c.in_ok-filled.ensures in
    let broken : read text ≡ Some new = ap read c.in_ok-push_str.ensures.bytes ∙ read_with_line_break json new c.in_ok-text.ensures.compact (c.in_ok-text.ensures.reads_back shallow) in
    let reads : Reads text new = reads_text text new (IsUtf8-had text c.push_str.new.self.ok) broken in
    text_of c.args.bytes.now text (doc_of c.args.document.now) c.args.inputs.now journal old new start c.requires.spelled c.in_ok-value.ensures.reads reads c.requires.plain
    (c.requires.inputs ∙ sym c.valid_law.ensures.inputs) c.in_ok-start.ensures c.in_ok-filled.ensures
