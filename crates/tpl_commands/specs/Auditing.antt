-- What `audit` answers to a document.
use Rattle.std.specs.Prelude.{◌≡◌, ℕ, Bool, true, false, List, Option, Some, None, ◌++◌, codes, reverse}
use Rattle.tpl_draft.specs.Named.{Names}
use Rattle.tpl_model.specs.declared.event.Event.{Event}
use Rattle.tpl_model.specs.Rules as rules
use Rattle.tpl_journal.specs.declared.reading_lines.JournalFault.{JournalFault}
use Rattle.tpl_journal.specs.declared.reading_lines.JournalFault.TheVariants as broken
use Rattle.tpl_journal.specs.Lines.{IsJournal, IsJournalFault, task_name}
use Rattle.tpl_audit.specs.declared.verdict.Failure.{Failure}
use Rattle.tpl_audit.specs.declared.verdict.Verdict.{Verdict}
use Rattle.tpl_audit.specs.declared.verdict.Verdict.TheVariants as ruled
use Rattle.tpl_audit.specs.Audit.{IsVerdict, FindsNoFailure}
use Rattle.tpl_reader.specs.Document.{DocumentValue}
use Rattle.tpl_commands.specs.Recorded.{ended_of}
use Rattle.tpl_commands.specs.Rules.{HasProof}
use Rattle.tpl_commands.specs.declared.auditing.Audit.{Audit}
use Rattle.tpl_commands.specs.declared.auditing.Audit.TheVariants.{NoStart, NoJournal, Judged}
use Rattle.tpl_commands.specs.declared.exit.Exit.{Exit}
use Rattle.tpl_commands.specs.declared.exit.Exit.TheVariants.{Success, Failure as Failed, Unreadable, Memory}
use Rattle.tpl_commands.specs.Texts.{ended, claim_fails, task_ended, not_allowed, unreadable, unreadable_at, unreadable_start}
use Rattle.tpl_commands.specs.Responding.{Answers}
use Rattle.tpl_commands.specs.Documents.{ToDocument}
use Rattle.tpl_reader.specs.Starting.{inputs_of}

-- what is said of a run: whether it is complete, and where a claim fails
abbrev pub run_text : Bool → Option Failure → List ℕ
run_text complete None = ended complete
run_text complete (Some failure) = ended complete ++ claim_fails failure.claim failure.place

-- the text for a verdict; of a run whose tasks ended as the document says there is no further line
abbrev pub verdict_text : Names → Verdict → List ℕ
verdict_text names (ruled.Run complete fails None) = run_text complete fails
verdict_text names (ruled.Run complete fails (Some other)) =
    run_text complete fails ++ task_ended (task_name names other.task) other.status
verdict_text names (ruled.NotAllowed place) = not_allowed place
verdict_text names ruled.Memory = codes "out of memory\n"

-- success, where the run is complete and no claim fails
abbrev pub run_exit : Bool → Option Failure → Exit
run_exit true None = Success
run_exit false None = Failed
run_exit complete (Some failure) = Failed

-- the exit for a verdict: no success, where a task has not ended as the document says
abbrev pub verdict_exit : Verdict → Exit
verdict_exit (ruled.Run complete fails None) = run_exit complete fails
verdict_exit (ruled.Run complete fails (Some other)) = Failed
verdict_exit (ruled.NotAllowed place) = Failed
verdict_exit ruled.Memory = Memory

-- The verdict on the journal, whose text is that of these events. Where the document's certificate is accepted, no claim
-- fails.
pub record IsAudited (doc : DocumentValue) (verdict : Verdict) : Type 0 where
  pub inputs : List Bool
  pub known : inputs_of doc ≡ Some inputs
  pub events : List Event
  pub journal : IsJournal doc.graph doc.journal events
  pub audited : IsVerdict doc.graph.graph inputs events doc.claims (ended_of doc) verdict
  pub sound : HasProof doc → FindsNoFailure verdict

-- The inputs are known, and the journal's text is none of the graph's, for this reason.
pub record IsNoJournal (doc : DocumentValue) (fault : JournalFault) : Type 0 where
  pub inputs : List Bool
  pub known : inputs_of doc ≡ Some inputs
  pub is : IsJournalFault doc.graph doc.journal fault
  pub other : fault ≡ broken.Memory → ⊥

-- the journal's text is that of these events, and they are a run with the document's inputs
pub record HasRun (doc : DocumentValue) (events : List Event) : Type 0 where
  pub inputs : List Bool
  pub known : inputs_of doc ≡ Some inputs
  pub journal : IsJournal doc.graph doc.journal events
  pub run : rules.Run doc.graph.graph inputs (reverse events)

-- what the audit says of the document's journal
abbrev pub IsAuditOf : DocumentValue → Audit → Type 0
IsAuditOf doc NoStart = inputs_of doc ≡ None
IsAuditOf doc (NoJournal fault) = IsNoJournal doc fault
IsAuditOf doc (Judged verdict) = IsAudited doc verdict

-- the line for a text that is no journal
abbrev pub IsNoJournalText : JournalFault → List ℕ → Type 0
IsNoJournalText (broken.Line number) text = text ≡ unreadable_at (codes "journal line") number
IsNoJournalText broken.Limit text = text ≡ unreadable (codes "journal limit")
IsNoJournalText broken.Memory text = ⊥

-- the exit and the text for what the audit says
abbrev pub IsAuditAnswer : Names → Audit → Exit → List ℕ → Type 0
IsAuditAnswer names NoStart exit text = (exit ≡ Unreadable) × (text ≡ unreadable_start (codes "Missing"))
IsAuditAnswer names (NoJournal fault) exit text = (exit ≡ Unreadable) × IsNoJournalText fault text
IsAuditAnswer names (Judged verdict) exit text = (exit ≡ verdict_exit verdict) × (text ≡ verdict_text names verdict)

-- the answer of `audit` to a document
abbrev pub IsAudit : DocumentValue → Exit → List ℕ → Type 0
IsAudit doc exit text = (audit : Audit) × IsAuditOf doc audit × IsAuditAnswer doc.graph.names audit exit text

-- the answer of `audit` to bytes
abbrev pub Audits : Answers
Audits = ToDocument IsAudit

-- the text has no line that names a claim which fails, whatever follows
abbrev pub NamesNoFailure : List ℕ → Type 0
NamesNoFailure text =
    (complete : Bool) (failure : Failure) (more : List ℕ) → text ≡ run_text complete (Some failure) ++ more → ⊥
