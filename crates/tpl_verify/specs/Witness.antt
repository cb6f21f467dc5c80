-- What `refute` answers to a document.
use Rattle.std.specs.Prelude.{◌≡◌, ◌⊎◌, ◌<◌, ◌≤◌, ℕ, Bool, List, Option, Some, None, ◌++◌, codes, length}
use Rattle.json.specs.Lex.{tokens}
use Rattle.json.specs.Print.{print}
use Rattle.tpl_model.specs.declared.event.Event.{Event}
use Rattle.tpl_model.specs.Certificate.{Tree}
use Rattle.tpl_model.specs.declared.rule_set.RuleSet.{RuleSet}
use Rattle.tpl_laws.specs.ByRules.{AcceptsBy}
use Rattle.tpl_model.specs.Claims.{Claim}
use Rattle.tpl_journal.specs.Lines.{IsJournal, lines}
use Rattle.tpl_audit.specs.declared.verdict.Failure.{Failure}
use Rattle.tpl_audit.specs.declared.verdict.OtherEnd.{OtherEnd}
use Rattle.tpl_audit.specs.declared.verdict.Verdict.TheVariants as ruled
use Rattle.tpl_draft.specs.Named.{Names}
use Rattle.tpl_refute.specs.Refuting.{Refutes}
use Rattle.tpl_reader.specs.Document.{DocumentValue, Spells, longest}
use Rattle.tpl_commands.specs.declared.exit.Exit.{Exit}
use Rattle.tpl_commands.specs.declared.exit.Exit.TheVariants.{Success, Failure as Failed, Usage, Unreadable, Memory, Device, Fault}
use Rattle.tpl_commands.specs.Auditing.{Audits, verdict_text}
use Rattle.tpl_commands.specs.Documents.{ToDocument}
use Rattle.tpl_commands.specs.Responding.{Answers}
use Rattle.tpl_commands.specs.Texts.{unreadable, unreadable_part}
use Rattle.tpl_verify.specs.Asking.{IsAsked, IsKnown, IsNumbered}
use Rattle.tpl_verify.specs.Filled.{with_run, IsTextOf}

-- these inputs and events are a run in which a claim fails that is searched
pub record IsFound (asked : Option ℕ) (doc : DocumentValue) (number : ℕ) (inputs : List Bool) (events : List Event) : Type 0 where
  pub asks : IsAsked asked number
  pub claim : Claim
  pub numbered : IsNumbered doc.claims number claim
  pub refutes : Refutes doc.graph.graph claim inputs events

-- the document with the run
abbrev pub refuted_by : DocumentValue → List Bool → List Event → DocumentValue
refuted_by doc inputs events = with_run doc inputs (lines doc.graph.names events)

-- the audit names a claim that fails at this place or before
pub record NamesFailure (names : Names) (place : ℕ) (exit : Exit) (text : List ℕ) : Type 0 where
  pub ends : exit ≡ Failed
  pub complete : Bool
  pub failure : Failure
  pub early : failure.place ≤ place
  pub other_end : Option OtherEnd
  pub said : text ≡ verdict_text names (ruled.Run complete (Some failure) other_end)

-- whatever the audit answers to a document of these bytes, memory aside, it names a claim that fails
abbrev pub IsAuditedSo : Names → ℕ → List ℕ → Type 0
IsAuditedSo names place bytes =
    (exit : Exit) (text : List ℕ) → Audits bytes exit text → (exit ≡ Memory) ⊎ NamesFailure names place exit text

-- The text spells the document itself with a run that refutes a claim, and no other document: its journal is that run.
-- It is one line, JSON with no space between its tokens, and a line break.
pub record IsRefutation (asked : Option ℕ) (doc : DocumentValue) (text : List ℕ) : Type 0 where
  pub number : ℕ
  pub inputs : List Bool
  pub events : List Event
  pub found : IsFound asked doc number inputs events
  pub spelled : Spells text (refuted_by doc inputs events)
  pub only : (other : DocumentValue) → Spells text other → other ≡ refuted_by doc inputs events
  pub journal : IsJournal doc.graph (lines doc.graph.names events) events
  pub audited : IsAuditedSo doc.graph.names (length events) text
  pub unproved : (rules : RuleSet) (certificate : List Tree) → AcceptsBy rules doc.graph.graph doc.claims certificate → ⊥
  pub json : List ℕ
  pub compact : json ≡ print (tokens json)
  pub ends : text ≡ json ++ codes "\n"

-- the document with the run is longer than one that can be read
pub record IsTooLong (asked : Option ℕ) (doc : DocumentValue) (text : List ℕ) : Type 0 where
  pub number : ℕ
  pub inputs : List Bool
  pub events : List Event
  pub found : IsFound asked doc number inputs events
  pub bytes : List ℕ
  pub text_of : IsTextOf bytes (refuted_by doc inputs events)
  pub long : longest < length bytes
  pub said : text ≡ unreadable (codes "too long")

-- the document has no claim of the number that is asked for
abbrev pub LacksClaim : Option ℕ → DocumentValue → List ℕ → Type 0
LacksClaim None doc text = ⊥
LacksClaim (Some asked) doc text =
    (IsKnown (length doc.claims) (Some asked) → ⊥) × (text ≡ unreadable_part (codes "claim") asked (codes "Missing"))

-- the document with a run that refutes a claim, or that none was found
abbrev pub IsSearched : Option ℕ → DocumentValue → Exit → List ℕ → Type 0
IsSearched asked doc Success text = IsKnown (length doc.claims) asked × (text ≡ codes "not refuted\n")
IsSearched asked doc Failed text = IsRefutation asked doc text
IsSearched asked doc Usage text = ⊥
IsSearched asked doc Unreadable text = LacksClaim asked doc text ⊎ IsTooLong asked doc text
IsSearched asked doc Memory text = ⊥
IsSearched asked doc Device text = ⊥
IsSearched asked doc Fault text = ⊥

-- the answer of `refute` to bytes
abbrev pub Searches : Option ℕ → Answers
Searches asked = ToDocument (IsSearched asked)
