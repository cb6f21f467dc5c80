use Rattle.std.proofs.Common.{List, ℕ, string_bytes, subst}
use Rattle.std.proofs.lemmas.Result.{IfOk-weaker}
use Rattle.tpl_reader.specs.SeenDocument.{doc_of}
use Rattle.tpl_verify.specs.Filled.{with_run, IsTextOf}
use Rattle.tpl_report.proofs.TellLemmas.{inputs_fit}
use Rattle.tpl_report.proofs.telling.document_text.Goals as goal

pub text_with-requires-clause-inputs : goal.text_with-requires-clause-inputs
text_with-requires-clause-inputs c =
    inputs_fit c.args.bytes.now (doc_of c.args.document.now) c.args.inputs.now c.valid_law.ensures c.requires.spelled c.requires.inputs

pub returns : goal.returns
returns c =
    IfOk-weaker c.text_with.result _ _
    (λ text is. subst (λ (j : List ℕ). IsTextOf (string_bytes text) (with_run (doc_of c.args.document.now) c.args.inputs.now j)) c.in_ok-journal.ensures.lines is)
    c.text_with.ensures.text
