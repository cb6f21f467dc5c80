-- How the tasks may end by the certificate of a document.
use Rattle.std.proofs.Common.{◌≡◌, List, length, Result, Ok, Err, IfOk, Vec, Global, ap, ◌∙◌}
use Rattle.std.specs.declared.alloc.AllocError.{AllocError}
use Rattle.tpl_model.specs.declared.finals.Finals.{Finals}
use Rattle.tpl_model.specs.declared.rule_set.RuleSet.{RuleSet}
use Rattle.tpl_model.specs.Claims.{Claim}
use Rattle.tpl_model.specs.Certificate.{Tree}
use Rattle.tpl_laws.specs.ByRules.{written_by}
use Rattle.tpl_draw.specs.Endings.{endings}
use Rattle.tpl_reader.specs.declared.document.Document.{Document}
use Rattle.tpl_reader.specs.SeenDocument.{doc_of}
use Rattle.tpl_commands.specs.Drawing.{AreEndings}
use Rattle.tpl_commands.specs.Rules.{HasProof, rules_of}

pub shown_by : (d : Document) (rules : RuleSet) (claims : List Claim) (trees : List Tree) (r : Result (Vec Finals Global) AllocError) → HasProof (doc_of d) → rules ≡ rules_of (doc_of d) → claims ≡ (doc_of d).claims → trees ≡ d.certificate
    → IfOk r (λ found. found.items ≡ endings (written_by rules (doc_of d).graph.graph claims trees) (length (doc_of d).graph.graph.tasks)) → IfOk r (λ ends. AreEndings (doc_of d) ends.items)
shown_by d rules claims trees (Ok found) proof by asked same is = record {
  accepted = λ p. is ∙ ap (λ z. endings z (length (doc_of d).graph.graph.tasks)) (λ i. written_by (by i) (doc_of d).graph.graph (asked i) (same i));
  refused = λ none. absurd (none proof);
}
shown_by d rules claims trees (Err e) proof by asked same is = tt
