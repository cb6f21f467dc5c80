-- What is asked of a document, and what is answered.
use Rattle.std.specs.Prelude.{◌≡◌, ◌⊎◌, ◌+◌, ◌≤◌, ℕ, List, Option, codes}
use Rattle.tpl_model.specs.Claims.{Claim}
use Rattle.tpl_draft.specs.Named.{Named}
use Rattle.tpl_journal.specs.Counting.{calls_of}
use Rattle.tpl_journal.specs.Writing.{Writes}
use Rattle.tpl_journal.specs.declared.counting.Counting.{Counting}
use Rattle.tpl_reader.specs.Document.{SpellsClaims, longest}
use Rattle.tpl_commands.specs.Rules.{HasProof}
use Rattle.tpl_commands.specs.declared.ask.Ask.{Ask}
use Rattle.tpl_commands.specs.declared.ask.Ask.TheVariants.{Check, Analyse, AnalyseIn, Certify, Audit, Draw}
use Rattle.tpl_commands.specs.Documents.{Tells}
use Rattle.tpl_commands.specs.Responding.{Answers, Reads, Responds}
use Rattle.tpl_commands.specs.Checking.{Checks, AllHold, ClaimsHold}
use Rattle.tpl_analyser.specs.declared.form.Form.{Form}
use Rattle.tpl_analyser.specs.declared.form.Form.TheVariants.{Full}
use Rattle.tpl_commands.specs.Searching.{Finds, IsCertificate}
use Rattle.tpl_commands.specs.Certifying.{Certifies, IsCertified}
use Rattle.tpl_commands.specs.Drawing.{Draws}
use Rattle.tpl_commands.specs.Auditing.{Audits, IsAudit, NamesNoFailure}
use Rattle.tpl_commands.specs.declared.exit.Exit.{Exit}
use Rattle.tpl_commands.specs.declared.exit.Exit.TheVariants.{Success, Failure}

-- the answer to what is asked of a document
abbrev pub answers_of : Ask → Answers
answers_of Check = Checks
answers_of (Analyse depth) = Finds depth Full
answers_of (AnalyseIn depth form) = Finds depth form
answers_of (Certify depth form) = Certifies depth form
answers_of Audit = Audits
answers_of (Draw language) = Draws language

-- What was read spells claims of a graph, each of which holds in each of its runs; `accepted` was written.
pub record Proved {R W : Type 0} (remaining : R → Option (List ℕ)) (from_old from_new : Counting R) (contents : W → Option (List ℕ)) (to_old to_new : Counting W) : Type 0 where
  pub input : List ℕ
  pub reads : Reads remaining from_old from_new input
  pub graph : Named
  pub claims : List Claim
  pub spelled : SpellsClaims input graph claims
  pub hold : AllHold graph.graph claims
  pub writes : Writes contents to_old to_new (codes "accepted\n")

-- What was read spells a document whose certificate is accepted, and each of its claims holds in
-- each run of its graph; `accepted` was written.
abbrev pub Accepted : {R W : Type 0} → (R → Option (List ℕ)) → Counting R → Counting R → (W → Option (List ℕ)) → Counting W → Counting W → Type 0
Accepted remaining from_old from_new contents to_old to_new =
    Tells (λ doc text. HasProof doc × ClaimsHold doc × (text ≡ codes "accepted\n")) remaining from_old from_new contents to_old to_new

-- What was read spells a document, and the text of a certificate was written that is accepted for it;
-- each of its claims holds in each run of its graph.
abbrev pub Found : {R W : Type 0} → (R → Option (List ℕ)) → Counting R → Counting R → (W → Option (List ℕ)) → Counting W → Counting W → ℕ → Form → Type 0
Found remaining from_old from_new contents to_old to_new depth form = Tells (IsCertificate depth form) remaining from_old from_new contents to_old to_new

-- What was read spells a document, and what was written spells it with a certificate that is accepted;
-- each of its claims holds in each run of its graph.
abbrev pub Certified : {R W : Type 0} → (R → Option (List ℕ)) → Counting R → Counting R → (W → Option (List ℕ)) → Counting W → Counting W → ℕ → Form → Type 0
Certified remaining from_old from_new contents to_old to_new depth form = Tells (IsCertified depth form) remaining from_old from_new contents to_old to_new

-- What was read spells a document, and the audit of its journal was written, which ends with this exit. Where
-- its certificate is accepted, no claim is named as failing.
abbrev pub Audited : {R W : Type 0} → (R → Option (List ℕ)) → Counting R → Counting R → (W → Option (List ℕ)) → Counting W → Counting W → Exit → Type 0
Audited remaining from_old from_new contents to_old to_new exit =
    Tells (λ doc text. IsAudit doc exit text × (HasProof doc → NamesNoFailure text)) remaining from_old from_new contents to_old to_new

-- What was read is answered as it is asked, by at most this many reads; and this is known from what the exit says.
pub record Serves {R W : Type 0} (ask : Ask) (remaining : R → Option (List ℕ)) (from_old from_new : Counting R) (contents : W → Option (List ℕ)) (to_old to_new : Counting W) (result : Exit) : Type 0 where
  pub responds : Responds (answers_of ask) remaining from_old from_new contents to_old to_new result
  pub reads : calls_of from_new ≤ calls_of from_old + (longest + 2)
  pub proved : ask ≡ Check → result ≡ Success → Proved remaining from_old from_new contents to_old to_new
  pub accepted : ask ≡ Check → result ≡ Success → Accepted remaining from_old from_new contents to_old to_new
  pub found : (depth : ℕ) → ask ≡ Analyse depth → result ≡ Success
      → Found remaining from_old from_new contents to_old to_new depth Full
  pub found_in : (depth : ℕ) (form : Form) → ask ≡ AnalyseIn depth form → result ≡ Success
      → Found remaining from_old from_new contents to_old to_new depth form
  pub certified : (depth : ℕ) (form : Form) → ask ≡ Certify depth form → result ≡ Success
      → Certified remaining from_old from_new contents to_old to_new depth form
  pub audited : ask ≡ Audit → (result ≡ Success) ⊎ (result ≡ Failure)
      → Audited remaining from_old from_new contents to_old to_new result
