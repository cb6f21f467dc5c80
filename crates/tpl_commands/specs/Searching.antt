-- What `analyse` answers to a document.
use Rattle.std.specs.Prelude.{◌≡◌, ◌≤◌, ℕ, List, ◌++◌, Some, codes, length}
use Rattle.std.specs.List.{All}
use Rattle.serde_json.specs.Data.{Data}
use Rattle.serde_json.specs.Read.{read}
use Rattle.serde_json.specs.Written.{compact_text}
use Rattle.tpl_model.specs.Certificate.{Tree}
use Rattle.tpl_laws.specs.ByRules.{AcceptsBy}
use Rattle.tpl_draft.specs.Named.{Names}
use Rattle.tpl_trees.specs.Heights.{height}
use Rattle.tpl_cert.specs.Written.{certificate_data}
use Rattle.tpl_analyser.specs.declared.form.Form.{Form}
use Rattle.tpl_analyser.specs.Gaps.{IsFirstWithout}
use Rattle.tpl_analyser.specs.Slim.{IsOfFormBy}
use Rattle.tpl_reader.specs.Document.{DocumentValue, Spells, longest}
use Rattle.tpl_commands.specs.Rules.{rules_of}
use Rattle.tpl_reader.specs.Laws.{IsReadBack, HoldsCertificate}
use Rattle.tpl_commands.specs.declared.exit.Exit.{Exit}
use Rattle.tpl_commands.specs.declared.exit.Exit.TheVariants.{Success, Failure}
use Rattle.tpl_commands.specs.declared.searching.Outcome.{Outcome}
use Rattle.tpl_commands.specs.declared.searching.Outcome.TheVariants.{Certificate, Missed}
use Rattle.tpl_commands.specs.declared.searching.Searched.{Searched}
use Rattle.tpl_commands.specs.declared.proof.Proof.{Proof}
use Rattle.tpl_commands.specs.Proof.{proof_data, rules_for, trees_of, IsRead}
use Rattle.tpl_commands.specs.Texts.{not_found}
use Rattle.tpl_commands.specs.Responding.{Answers}
use Rattle.tpl_commands.specs.Documents.{ToDocument}
use Rattle.tpl_commands.specs.Checking.{Checks, ClaimsHold}

-- the JSON value that is written for trees by the rules of the document: an array of them
abbrev pub written_trees : DocumentValue → List Tree → Data
written_trees doc trees = certificate_data (rules_of doc) doc.graph.names trees

-- whatever the check answers to a document of these bytes, it is `accepted`
abbrev pub IsOnlyAccepted : List ℕ → Type 0
IsOnlyAccepted bytes = (exit : Exit) (text : List ℕ) → Checks bytes exit text → (exit ≡ Success) × (text ≡ codes "accepted\n")

-- The bytes spell the document with these trees as its certificate, and no other document, and the
-- check accepts it.
pub record IsTakenBack (doc : DocumentValue) (trees : List Tree) (bytes : List ℕ) : Type 0 where
  pub spelled : Spells bytes (record doc { certificate = trees })
  pub only : (other : DocumentValue) → Spells bytes other → other ≡ record doc { certificate = trees }
  pub accepted : IsOnlyAccepted bytes

-- Any text of the document with this value as its member `certificate`, if it isn't too long, is taken
-- back with these trees.
abbrev pub CanBePut : DocumentValue → List Tree → Data → Type 0
CanBePut doc trees value =
    (input bytes : List ℕ) → Spells input doc → HoldsCertificate input value bytes → length bytes ≤ longest
    → IsTakenBack doc trees bytes

-- where each tree's text spells it, the trees are read back, and the document with them is
abbrev pub IsBackWhereRead : DocumentValue → List Tree → Type 0
IsBackWhereRead doc trees =
    All (IsRead (rules_of doc) doc.graph.names) trees
    → All (IsReadBack (rules_of doc) doc.graph.names) trees × CanBePut doc trees (written_trees doc trees)

-- The trees are a certificate of this form with at most this many splits on each path, which is accepted
-- for the document's claims.
pub record AreFound (depth : ℕ) (form : Form) (doc : DocumentValue) (trees : List Tree) : Type 0 where
  pub accepted : AcceptsBy (rules_of doc) doc.graph.graph doc.claims trees
  pub splits : All (λ tree. height tree ≤ depth) trees
  pub of_form : IsOfFormBy (rules_of doc) form doc.claims trees

-- the certificate is one by the document's rules, and accepted for its claims
abbrev pub IsProofOf : DocumentValue → Proof → Type 0
IsProofOf doc proof = (rules_of doc ≡ rules_for proof) × AcceptsBy (rules_of doc) doc.graph.graph doc.claims (trees_of proof)

-- the same of a certificate of this form with at most this many splits on each path
abbrev pub IsFoundBy : ℕ → Form → DocumentValue → Proof → Type 0
IsFoundBy depth form doc proof = (rules_of doc ≡ rules_for proof) × AreFound depth form doc (trees_of proof)

-- how a search with this many splits on each path ends for the document
abbrev pub IsOutcome : ℕ → Form → DocumentValue → Outcome → Type 0
IsOutcome depth form doc (Certificate proof) = IsFoundBy depth form doc proof
IsOutcome depth form doc (Missed claim ran_out) = IsFirstWithout (rules_of doc) doc.graph.graph doc.claims depth claim

-- how the search ended is so of the document
abbrev pub IsSearchOf : DocumentValue → Searched → Type 0
IsSearchOf doc search = IsOutcome search.depth search.form doc search.outcome

-- the text of the certificate that was found, or the line that names the claim for which none was
abbrev pub IsOutcomeText : Names → Outcome → List ℕ → Type 0
IsOutcomeText names (Certificate proof) text = text ≡ compact_text (proof_data names proof) ++ codes "\n"
IsOutcomeText names (Missed claim ran_out) text = text ≡ not_found claim

-- The text is that of a certificate of this form with at most this many splits on each path, which is
-- accepted for the document's claims, and so they hold. As the member `certificate` of the document it is read as
-- these trees, and accepted.
pub record IsCertificate (depth : ℕ) (form : Form) (doc : DocumentValue) (text : List ℕ) : Type 0 where
  pub trees : List Tree
  pub accepted : AcceptsBy (rules_of doc) doc.graph.graph doc.claims trees
  pub hold : ClaimsHold doc
  pub splits : All (λ tree. height tree ≤ depth) trees
  pub of_form : IsOfFormBy (rules_of doc) form doc.claims trees
  pub value : read (compact_text (written_trees doc trees)) ≡ Some (written_trees doc trees)
  pub read : All (IsReadBack (rules_of doc) doc.graph.names) trees
  pub again : CanBePut doc trees (written_trees doc trees)
  pub written : text ≡ compact_text (written_trees doc trees) ++ codes "\n"

-- the text names the first claim for which none was found
abbrev pub IsNotFound : ℕ → DocumentValue → List ℕ → Type 0
IsNotFound depth doc text =
    (claim : ℕ) × IsFirstWithout (rules_of doc) doc.graph.graph doc.claims depth claim × (text ≡ not_found claim)

-- a certificate, or the first claim for which none was found
abbrev pub IsSearching : ℕ → Form → DocumentValue → Exit → List ℕ → Type 0
IsSearching depth form doc Success text = IsCertificate depth form doc text
IsSearching depth form doc Failure text = IsNotFound depth doc text
IsSearching depth form doc exit text = ⊥

-- the answer of `analyse` to bytes
abbrev pub Finds : ℕ → Form → Answers
Finds depth form = ToDocument (IsSearching depth form)
