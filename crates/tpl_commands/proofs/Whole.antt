-- A document with a certificate in its place: what is written for it is read back.
use Rattle.std.proofs.Common.{◌≡◌, ℕ, suc, ◌≤◌, List, [], ◌∷◌, Some, Result, Ok, Err, IfOk, string_bytes, inl, inr, codes, map, arith, sym, subst}
use Rattle.std.specs.List.{All}
use Rattle.serde_json.specs.Data.{Data, put, depth, items_depth, object}
use Rattle.serde_json.specs.Read.{read, max_depth}
use Rattle.serde_json.specs.View.{items_of}
use Rattle.serde_json.proofs.Nesting.{depth-read}
use Rattle.tpl_json.proofs.Puts.{depth_put}
use Rattle.tpl_model.specs.declared.rule_set.RuleSet.{RuleSet}
use Rattle.tpl_model.specs.Certificate.{Tree}
use Rattle.tpl_draft.specs.Named.{Names}
use Rattle.tpl_trees.specs.Heights.{height, IsWithinLimits}
use Rattle.tpl_cert.specs.Written.{tree_data, certificate_data}
use Rattle.tpl_cert.proofs.Nesting.{tree_depth}
use Rattle.std.specs.declared.alloc.AllocError.{AllocError}
use Rattle.tpl_analyser.specs.declared.form.Form.{Form}
use Rattle.tpl_reader.specs.Document.{DocumentValue, Spells}
use Rattle.tpl_reader.specs.Laws.{HasCertificate, HoldsCertificate}
use Rattle.tpl_commands.specs.declared.answer.Answer.{Answer}
use Rattle.tpl_commands.specs.declared.exit.Exit.{Exit}
use Rattle.tpl_commands.specs.declared.searching.Outcome.TheVariants.{Certificate}
use Rattle.tpl_commands.specs.Certifying.{IsCertified, IsTooLong, IsCertifying, IsSized, IsWholeText}
use Rattle.tpl_commands.specs.Checking.{ClaimsHold}
use Rattle.tpl_commands.specs.declared.proof.Proof.{Proof}
use Rattle.tpl_commands.specs.Proof.{proof_data, rules_for, trees_of}
use Rattle.tpl_commands.specs.Rules.{rules_of}
use Rattle.tpl_commands.specs.Searching.{CanBePut, IsFoundBy, written_trees}

trees_depth : (rules : RuleSet) (n : Names) (trees : List Tree) → All IsWithinLimits trees → items_depth (items_of (map (tree_data rules n) trees)) ≤ 10
trees_depth rules n [] low = omega arith
trees_depth rules n (t ∷ trees) low =
    let first = tree_depth rules n t in
    let six : height t ≤ 6 = (low 0 t (omega arith)).0 in
    let rest = trees_depth rules n trees (λ k x lt. low (suc k) x (omega arith)) in
    omega arith

-- with a certificate in its place a value that was read nests no deeper than what is read
pub whole_depth : (rules : RuleSet) (n : Names) (trees : List Tree) (bytes : List ℕ) (d with : Data) → All IsWithinLimits trees → read bytes ≡ Some d → HasCertificate d (certificate_data rules n trees) with → depth with ≤ max_depth
whole_depth rules n trees bytes d with low is has =
    let ms = has.0 in
    let below : depth (object ms) ≤ max_depth = subst (λ (x : Data). depth x ≤ max_depth) has.1 (depth-read bytes d is) in
    let shallow = trees_depth rules n trees low in
    let le = depth_put (codes "certificate") (certificate_data rules n trees) ms 126 (omega arith) (omega arith) in
    subst (λ (x : Data). depth x ≤ max_depth) (sym has.2) (omega arith)

-- what is written for a certificate of one sort is written by the document's rules
by_rules : (doc : DocumentValue) (proof : Proof) (input text : List ℕ) → rules_of doc ≡ rules_for proof → HoldsCertificate input (proof_data doc.graph.names proof) text → HoldsCertificate input (written_trees doc (trees_of proof)) text
by_rules doc proof input text rules holds = subst (λ (r : RuleSet). HoldsCertificate input (certificate_data r doc.graph.names (trees_of proof)) text) (sym rules) holds

-- the text of a document with a certificate in its place, read back or too long
pub certifying : (depth : ℕ) (form : Form) (doc : DocumentValue) (proof : Proof) (input text : List ℕ)
    → IsFoundBy depth form doc proof → ClaimsHold doc → CanBePut doc (trees_of proof) (written_trees doc (trees_of proof)) → Spells input doc → HoldsCertificate input (proof_data doc.graph.names proof) text
    → (r : Result Answer AllocError) → IfOk r (IsSized text) → IfOk r (λ given. IsCertifying depth form doc given.exit (string_bytes given.text) × IsWholeText doc.graph.names (Certificate proof) (string_bytes given.text))
certifying depth form doc proof input text found hold put spelled holds (Ok given) (inl (le, is_success, is_text)) =
    let same = by_rules doc proof input text found.0 holds in
    let certified : IsCertified depth form doc text = record { trees = trees_of proof; found = found.1; hold = hold; taken_back = put input text spelled same le } in (
      subst (λ (e : Exit). IsCertifying depth form doc e (string_bytes given.text)) (sym is_success) (subst (λ (bytes : List ℕ). IsCertified depth form doc bytes) (sym is_text) certified),
      inl (input, subst (λ (bytes : List ℕ). HoldsCertificate input (proof_data doc.graph.names proof) bytes) (sym is_text) holds),
    )
certifying depth form doc proof input text found hold put spelled holds (Ok given) (inr (lt, is_failure, is_text)) =
    let same = by_rules doc proof input text found.0 holds in
    let too_long : IsTooLong depth form doc = record { trees = trees_of proof; found = found.1; input = input; spelled = spelled; text = text; holds = same; long = lt } in
    (subst (λ (e : Exit). IsCertifying depth form doc e (string_bytes given.text)) (sym is_failure) (inr (too_long, is_text)), inr is_text)
certifying depth form doc proof input text found hold put spelled holds (Err e) sized = tt
