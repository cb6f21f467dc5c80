-- How a run is told.
use Rattle.std.specs.Prelude.{◌≡◌, ◌⊎◌, ◌<◌, ℕ, Bool, true, false, List, Option, length, codes}
use Rattle.tpl_model.specs.declared.event.Event.{Event}
use Rattle.tpl_journal.specs.declared.counting.Counting.{Counting}
use Rattle.tpl_journal.specs.Lines.{IsJournal, lines}
use Rattle.tpl_journal.specs.ReportText.{ReportValue, ReportText}
use Rattle.tpl_reader.specs.Document.{DocumentValue, Spells, longest}
use Rattle.tpl_verify.specs.Filled.{with_run, IsTextOf}
use Rattle.tpl_commands.specs.declared.exit.Exit.{Exit}
use Rattle.tpl_commands.specs.declared.exit.Exit.TheVariants.{Success, Failure, Memory}
use Rattle.tpl_commands.specs.Responding.{Puts}
use Rattle.tpl_report.specs.declared.telling.Telling.{Telling}
use Rattle.tpl_report.specs.declared.telling.Telling.TheVariants.{Report, Whole}

-- success, where the report says that the run is complete
abbrev pub report_exit : Bool → Exit
report_exit true = Success
report_exit false = Failure

-- the bytes are those of the document, where it is told as a whole
abbrev pub IsToldOf : Telling → DocumentValue → Type 0
IsToldOf Report doc = Unit {0}
IsToldOf (Whole bytes) doc = Spells bytes.now doc

-- the document with the inputs and the events of a run
abbrev pub with_events : DocumentValue → List Bool → List Event → DocumentValue
with_events doc inputs events = with_run doc inputs (lines doc.graph.names events)

-- the text spells the document with the run of these events, and no other document
pub record IsWhole (doc : DocumentValue) (inputs : List Bool) (events : List Event) (text : List ℕ) : Type 0 where
  pub journal : IsJournal doc.graph (lines doc.graph.names events) events
  pub spelled : Spells text (with_events doc inputs events)
  pub only : (other : DocumentValue) → Spells text other → other ≡ with_events doc inputs events

-- the document with the run of these events is longer than one that is read, which the text says
pub record IsOverlong (doc : DocumentValue) (inputs : List Bool) (events : List Event) (text : List ℕ) : Type 0 where
  pub bytes : List ℕ
  pub text_of : IsTextOf bytes (with_events doc inputs events)
  pub long : longest < length bytes
  pub said : text ≡ codes "too long\n"

-- the text tells the run that is reported
abbrev pub Tells : Telling → DocumentValue → List Bool → ReportValue → List ℕ → Type 0
Tells Report doc inputs report text = text ≡ ReportText doc.graph report
Tells (Whole bytes) doc inputs report text = IsWhole doc inputs report.journal text

-- the run that is reported can't be told, which the text says
abbrev pub IsUntold : Telling → DocumentValue → List Bool → ReportValue → List ℕ → Type 0
IsUntold Report doc inputs report text = ⊥
IsUntold (Whole bytes) doc inputs report text = IsOverlong doc inputs report.journal text

-- the exit and the text where a run is reported: it is told, it can't be told, or memory was refused
abbrev pub IsTelling : Telling → DocumentValue → List Bool → ReportValue → Exit → List ℕ → Type 0
IsTelling telling doc inputs report exit text =
    ((exit ≡ report_exit report.complete) × Tells telling doc inputs report text)
    ⊎ (((exit ≡ Failure) × IsUntold telling doc inputs report text)
    ⊎ ((exit ≡ Memory) × (text ≡ codes "out of memory\n")))

-- that was written, or a write failed
pub record PutsTelling {W : Type 0} (telling : Telling) (doc : DocumentValue) (inputs : List Bool) (report : ReportValue) (contents : W → Option (List ℕ)) (old new : Counting W) (result : Exit) : Type 0 where
  pub exit : Exit
  pub text : List ℕ
  pub tells : IsTelling telling doc inputs report exit text
  pub puts : Puts contents old new exit text result
