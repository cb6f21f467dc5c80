-- What `trace` answers to a document.
use Rattle.std.specs.Prelude.{◌≡◌, ◌<◌, ◌⊎◌, ℕ, List, [], ◌∷◌, length, Option}
use Rattle.std.specs.List.{All}
use Rattle.tpl_model.specs.declared.event.Event.{Event}
use Rattle.tpl_journal.specs.declared.counting.Counting.{Counting}
use Rattle.tpl_journal.specs.Lines.{CanSpell}
use Rattle.tpl_reader.specs.Document.{DocumentValue, Spells}
use Rattle.tpl_commands.specs.declared.exit.Exit.{Exit}
use Rattle.tpl_commands.specs.declared.exit.Exit.TheVariants.{Success, Failure}
use Rattle.tpl_commands.specs.Auditing.{Audits, HasRun, IsAuditOf}
use Rattle.tpl_commands.specs.Documents.{Tells}
use Rattle.tpl_commands.specs.Recorded.{times_of}
use Rattle.tpl_commands.specs.Responding.{Answers}
use Rattle.tpl_trace.specs.declared.answering.Journal.{Journal}
use Rattle.tpl_trace.specs.declared.answering.Journal.TheVariants.{Run, Other}
use Rattle.tpl_trace.specs.Trace.{trace_text}

-- the journal is a run of these events, each of which can be spelled; or the audit says of it what no run has
abbrev pub IsJournalOf : DocumentValue → Journal → Type 0
IsJournalOf doc (Run events) = HasRun doc events.items × All (CanSpell doc.graph.graph) events.items
IsJournalOf doc (Other audit) = IsAuditOf doc audit × ((events : List Event) → HasRun doc events → ⊥)

-- the journal is a run, and this is its trace, with the times that the document gives
pub record IsTraced (doc : DocumentValue) (text : List ℕ) : Type 0 where
  pub events : List Event
  pub run : HasRun doc events
  pub said : text ≡ trace_text doc.graph (times_of doc) events

-- the bytes spell no document whose journal is a run
abbrev pub SpellsNoRun : List ℕ → Type 0
SpellsNoRun input = (doc : DocumentValue) (events : List Event) → Spells input doc → HasRun doc events → ⊥

-- success, where there is an event
abbrev pub traced_exit : List Event → Exit
traced_exit [] = Failure
traced_exit (event ∷ events) = Success

-- The trace of the document's journal, where that is a run; else what `audit` answers. A trace without an event is no success.
abbrev pub Traces : Answers
Traces input exit text =
    ((doc : DocumentValue) × Spells input doc × (is : IsTraced doc text) × (exit ≡ traced_exit is.events))
    ⊎ (SpellsNoRun input × Audits input exit text)

-- the journal is a run with an event, and this is its trace
abbrev pub IsTracedSome : DocumentValue → List ℕ → Type 0
IsTracedSome doc text = (is : IsTraced doc text) × (0 < length is.events)

-- What was read spells a document whose journal is such a run, and its trace was written.
abbrev pub Traced : {R W : Type 0} → (R → Option (List ℕ)) → Counting R → Counting R → (W → Option (List ℕ)) → Counting W → Counting W → Type 0
Traced remaining from_old from_new contents to_old to_new = Tells IsTracedSome remaining from_old from_new contents to_old to_new
