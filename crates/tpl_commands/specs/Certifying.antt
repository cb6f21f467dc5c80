-- What `analyse --whole` answers to a document.
use Rattle.std.specs.Prelude.{◌≡◌, ◌⊎◌, ◌≤◌, ◌<◌, ℕ, List, codes, length, string_bytes}
use Rattle.serde_json.specs.Data.{Data, Members, object}
use Rattle.tpl_draft.specs.Named.{Names}
use Rattle.tpl_model.specs.Certificate.{Tree}
use Rattle.tpl_analyser.specs.declared.form.Form.{Form}
use Rattle.tpl_reader.specs.Document.{DocumentValue, Reads, Spells, longest}
use Rattle.tpl_reader.specs.Laws.{HoldsCertificate}
use Rattle.tpl_commands.specs.declared.answer.Answer.{Answer}
use Rattle.tpl_commands.specs.declared.exit.Exit.{Exit}
use Rattle.tpl_commands.specs.declared.exit.Exit.TheVariants.{Success, Failure}
use Rattle.tpl_commands.specs.Responding.{Answers}
use Rattle.tpl_commands.specs.Documents.{ToDocument}
use Rattle.tpl_commands.specs.Checking.{ClaimsHold}
use Rattle.tpl_commands.specs.declared.searching.Outcome.{Outcome}
use Rattle.tpl_commands.specs.declared.searching.Outcome.TheVariants.{Certificate, Missed}
use Rattle.tpl_commands.specs.Texts.{not_found}
use Rattle.tpl_commands.specs.Proof.{proof_data}
use Rattle.tpl_commands.specs.Searching.{written_trees, AreFound, IsTakenBack, IsNotFound}

-- The text spells the document with such a certificate in place of its own, and no other document; the
-- check accepts it, and so the claims hold.
pub record IsCertified (depth : ℕ) (form : Form) (doc : DocumentValue) (text : List ℕ) : Type 0 where
  pub trees : List Tree
  pub found : AreFound depth form doc trees
  pub hold : ClaimsHold doc
  pub taken_back : IsTakenBack doc trees text

-- A text of the document with such a certificate in its place is longer than what is read.
pub record IsTooLong (depth : ℕ) (form : Form) (doc : DocumentValue) : Type 0 where
  pub trees : List Tree
  pub found : AreFound depth form doc trees
  pub input : List ℕ
  pub spelled : Spells input doc
  pub text : List ℕ
  pub holds : HoldsCertificate input (written_trees doc trees) text
  pub long : longest < length text

-- the document with a certificate; or the number of the first claim for which none was found, or that the document
-- would be too long
abbrev pub IsCertifying : ℕ → Form → DocumentValue → Exit → List ℕ → Type 0
IsCertifying depth form doc Success text = IsCertified depth form doc text
IsCertifying depth form doc Failure text =
    IsNotFound depth doc text ⊎ (IsTooLong depth form doc × (text ≡ codes "too long\n"))
IsCertifying depth form doc exit text = ⊥

-- the answer of `analyse --whole` to bytes
abbrev pub Certifies : ℕ → Form → Answers
Certifies depth form = ToDocument (IsCertifying depth form)

-- a text of the document with the certificate that was found, or that it is too long, or the line that names the claim for
-- which none was found
abbrev pub IsWholeText : Names → Outcome → List ℕ → Type 0
IsWholeText names (Certificate proof) text =
    ((input : List ℕ) × HoldsCertificate input (proof_data names proof) text) ⊎ (text ≡ codes "too long\n")
IsWholeText names (Missed claim ran_out) text = text ≡ not_found claim

-- the text itself where it is no longer than what is read, else that it is too long
abbrev pub IsSized : List ℕ → Answer → Type 0
IsSized text given =
    ((length text ≤ longest) × (given.exit ≡ Success) × (string_bytes given.text ≡ text))
    ⊎ ((longest < length text) × (given.exit ≡ Failure) × (string_bytes given.text ≡ codes "too long\n"))

-- the value has members
abbrev pub IsObject : Data → Type 0
IsObject d = (ms : Members) × (d ≡ object ms)

-- the bytes are a text of a value that has members
abbrev pub IsTextOfObject : List ℕ → Type 0
IsTextOfObject bytes = (d : Data) × Reads bytes d × IsObject d
