-- What `run` writes of a document.
use Rattle.std.specs.Prelude.{◌≡◌, ◌⊎◌, ℕ, Bool, true, false, List, Option, Some, None, reverse, codes}
use Rattle.tpl_model.specs.declared.fault.CertFault.{CertFault}
use Rattle.tpl_model.specs.Claims.{Holds}
use Rattle.tpl_laws.specs.Soundness.{Each}
use Rattle.tpl_journal.specs.declared.counting.Counting.{Counting}
use Rattle.tpl_draft.specs.Named.{Named}
use Rattle.tpl_reader.specs.Document.{DocumentValue}
use Rattle.tpl_journal.specs.ReportText.{ReportValue}
use Rattle.tpl_journal.specs.Writing.{Writes}
use Rattle.tpl_commands.specs.declared.exit.Exit.{Exit}
use Rattle.tpl_commands.specs.declared.exit.Exit.TheVariants.{Success, Failure, Usage, Unreadable, Memory, Device, Fault}
use Rattle.tpl_report.specs.declared.fault.RunFault.{RunFault}
use Rattle.tpl_report.specs.declared.fault.Stop.{Stop}
use Rattle.tpl_report.specs.declared.fault.Stop.TheVariants.{Fault as Stopped, Memory as NoMemory}
use Rattle.tpl_commands.specs.Checking.{IsAccepted, IsRefused, IsRefusal}
use Rattle.tpl_report.specs.Made.{IsMadeBy, requests_of}
use Rattle.tpl_report.specs.Reported.{IsReport}
use Rattle.tpl_report.specs.Telling.{Tells, IsUntold}
use Rattle.tpl_report.specs.declared.telling.Telling.{Telling}
use Rattle.tpl_commands.specs.Responding.{Puts}
use Rattle.tpl_report.specs.RunTexts.{fault_line}
use Rattle.tpl_reader.specs.Starting.{inputs_of}
use Rattle.tpl_commands.specs.Texts.{unreadable_start}

-- the exit where no run was made
abbrev pub stop_exit : Stop → Exit
stop_exit NoMemory = Memory
stop_exit (Stopped fault) = Fault

-- the line for why no run was made
abbrev pub stop_text : Stop → List ℕ
stop_text NoMemory = codes "out of memory\n"
stop_text (Stopped fault) = fault_line fault

-- The certificate is accepted, and the text is what is told of a run with these inputs by this many
-- workers, in which each token of `start` was requested and each claim of the document holds.
pub record IsReported (doc : DocumentValue) (inputs : List Bool) (workers : ℕ) (complete : Bool) (is_told : ReportValue → List ℕ → Type 0) (text : List ℕ) : Type 0 where
  pub accepted : IsAccepted doc
  pub report : ReportValue
  pub of_run : IsReport doc.graph inputs report
  pub made : IsMadeBy doc.graph.graph inputs workers (requests_of doc.start) report.journal
  pub hold : Each (λ claim. Holds doc.graph.graph claim inputs (reverse report.journal)) doc.claims
  pub says : report.complete ≡ complete
  pub told : is_told report text

-- the first fault of the certificate, as `check` writes it
abbrev pub IsCheckRefusal : DocumentValue → List ℕ → Type 0
IsCheckRefusal doc text = (fault : CertFault) × IsRefused doc fault × IsRefusal doc.graph.names.tasks fault text

-- the certificate is accepted, and the line names a fault for which no run by this many workers is made
pub record IsPrevented (doc : DocumentValue) (workers : ℕ) (prevents : Named → ℕ → RunFault → Type 0) (text : List ℕ) : Type 0 where
  pub accepted : IsAccepted doc
  pub fault : RunFault
  pub why : prevents doc.graph workers fault
  pub names : text ≡ fault_line fault

-- the exits and texts of a run that is told so, with these inputs by this many workers, that isn't made for these faults
abbrev pub RunsWith : Telling → DocumentValue → List Bool → ℕ → (prevents : Named → ℕ → RunFault → Type 0) → Exit → List ℕ → Type 0
RunsWith telling doc inputs workers prevents Success text = IsReported doc inputs workers true (Tells telling doc inputs) text
RunsWith telling doc inputs workers prevents Failure text =
    IsReported doc inputs workers false (Tells telling doc inputs) text
    ⊎ (((complete : Bool) × IsReported doc inputs workers complete (IsUntold telling doc inputs) text)
    ⊎ IsCheckRefusal doc text)
RunsWith telling doc inputs workers prevents Usage text = ⊥
RunsWith telling doc inputs workers prevents Unreadable text = ⊥
RunsWith telling doc inputs workers prevents Memory text = text ≡ codes "out of memory\n"
RunsWith telling doc inputs workers prevents Device text = ⊥
RunsWith telling doc inputs workers prevents Fault text = IsPrevented doc workers prevents text

-- the exits and texts of a run, where the inputs are known and where they aren't
abbrev pub RunsFrom : Telling → DocumentValue → Option (List Bool) → ℕ → (prevents : Named → ℕ → RunFault → Type 0) → Exit → List ℕ → Type 0
RunsFrom telling doc None workers prevents exit text = (exit ≡ Unreadable) × (text ≡ unreadable_start (codes "Missing"))
RunsFrom telling doc (Some inputs) workers prevents exit text = RunsWith telling doc inputs workers prevents exit text

-- the text was written whole, and so the run ends; or a write failed
pub record Runs {W : Type 0} (telling : Telling) (doc : DocumentValue) (inputs : Option (List Bool)) (workers : ℕ) (prevents : Named → ℕ → RunFault → Type 0) (contents : W → Option (List ℕ)) (old new : Counting W) (result : Exit) : Type 0 where
  pub exit : Exit
  pub text : List ℕ
  pub runs : RunsFrom telling doc inputs workers prevents exit text
  pub puts : Puts contents old new exit text result

-- what was written tells a run by this many workers, and the report says that it is complete
pub record Completes {W : Type 0} (telling : Telling) (doc : DocumentValue) (workers : ℕ) (contents : W → Option (List ℕ)) (old new : Counting W) : Type 0 where
  pub inputs : List Bool
  pub known : inputs_of doc ≡ Some inputs
  pub text : List ℕ
  pub reported : IsReported doc inputs workers true (Tells telling doc inputs) text
  pub writes : Writes contents old new text

-- what `run` does with a document, by this many workers, that isn't made for these faults: success says that what was written tells a complete run, and the line for want of memory stands alone
pub record ServesRun {W : Type 0} (telling : Telling) (doc : DocumentValue) (workers : ℕ) (prevents : Named → ℕ → RunFault → Type 0) (contents : W → Option (List ℕ)) (old new : Counting W) (result : Exit) : Type 0 where
  pub runs : Runs telling doc (inputs_of doc) workers prevents contents old new result
  pub complete : result ≡ Success → Completes telling doc workers contents old new
  pub memory : result ≡ Memory → Writes contents old new (codes "out of memory\n")
