use Rattle.std.proofs.Common.{string_bytes, subst, sym}
use Rattle.std.specs.List.{All}
use Rattle.tpl_model.specs.declared.rule_set.RuleSet.{RuleSet}
use Rattle.tpl_reader.proofs.Pieces.{spelled_object}
use Rattle.tpl_reader.specs.SeenDocument.{doc_of}
use Rattle.tpl_commands.specs.Proof.{trees_of, IsRead}
use Rattle.tpl_commands.proofs.Whole.{certifying}
use Rattle.tpl_commands.proofs.certifying.certified.Goals as goal

pub whole_text-requires-clause-json : goal.whole_text-requires-clause-json
whole_text-requires-clause-json c =
    let s = c.requires.spelled in
    (s.1.0, s.1.1, spelled_object s.1.0 s.1.2.0 s.1.2.1)

pub returns : goal.returns
returns c =
    let doc = doc_of c.args.document.now in
    let proof = c.args.proof.now in
    let read = subst (λ (r : RuleSet). All (IsRead r doc.graph.names) (trees_of proof)) (sym c.requires.found.0) c.in_ok-text.ensures.read in
    certifying c.args.depth c.args.form doc proof c.args.bytes.now (string_bytes c.in_ok-text.text)
    c.requires.found c.found_law.ensures.hold (c.found_law.ensures.back read).1 c.requires.spelled c.in_ok-text.ensures.holds c.sized.result c.sized.ensures
