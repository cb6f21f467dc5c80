-- What `draw` answers to a document.
use Rattle.std.specs.Prelude.{◌≡◌, ℕ, ◌-◌, Bool, List, [], length, slice_get, Option, Some, None}
use Rattle.tpl_model.specs.declared.finals.Finals.{Finals}
use Rattle.tpl_model.specs.declared.event.Event.{Event}
use Rattle.tpl_model.specs.Claims.{Claim}
use Rattle.tpl_audit.specs.declared.verdict.Failure.{Failure}
use Rattle.tpl_audit.specs.Audit.{first_events, FirstFails}
use Rattle.tpl_audit.specs.Standing.{statuses}
use Rattle.tpl_laws.specs.ByRules.{written_by}
use Rattle.tpl_draw.specs.declared.language.Language.{Language}
use Rattle.tpl_draw.specs.declared.shown.Failing.{Failing}
use Rattle.tpl_draw.specs.declared.shown.Moment.{Moment}
use Rattle.tpl_draw.specs.declared.shown.Shown.{Shown}
use Rattle.tpl_draw.specs.declared.shown.Shown.TheVariants.{Endings, Run}
use Rattle.tpl_draw.specs.Endings.{endings}
use Rattle.tpl_draw.specs.Picture.{picture}
use Rattle.tpl_reader.specs.Document.{DocumentValue}
use Rattle.tpl_commands.specs.Auditing.{HasRun}
use Rattle.tpl_commands.specs.Rules.{HasProof, rules_of}
use Rattle.tpl_commands.specs.declared.exit.Exit.{Exit}
use Rattle.tpl_commands.specs.declared.exit.Exit.TheVariants.{Success}
use Rattle.tpl_commands.specs.Responding.{Answers}
use Rattle.tpl_commands.specs.Documents.{ToDocument}

-- The ends are how the tasks may end by the rows of the certificate, written or left out, where it is accepted; else there
-- are none.
pub record AreEndings (doc : DocumentValue) (ends : List Finals) : Type 0 where
  pub accepted : HasProof doc → ends ≡ endings (written_by (rules_of doc) doc.graph.graph doc.claims doc.certificate) (length doc.graph.graph.tasks)
  pub refused : (HasProof doc → ⊥) → ends ≡ []

-- the moment of a run that is drawn: where a claim fails first, or the end
abbrev pub place_shown : Option Failure → ℕ → ℕ
place_shown None count = count
place_shown (Some failure) count = failure.place

-- a claim that fails, by its number
abbrev pub failing_as : ℕ → Option Claim → Option Failing
failing_as number None = None
failing_as number (Some claim) = Some (record { claim = number; says = claim.body })

-- the claim that fails, if one does; claims count from 1
abbrev pub failing_in : List Claim → Option Failure → Option Failing
failing_in claims None = None
failing_in claims (Some failure) = failing_as failure.claim (slice_get claims (failure.claim - 1))

-- The moment is the one that is drawn of a run of these events with these inputs.
pub record IsMoment (doc : DocumentValue) (inputs : List Bool) (events : List Event) (moment : Moment) : Type 0 where
  pub fails : Option Failure
  pub first : FirstFails doc.graph.graph inputs events doc.claims fails
  pub place : moment.place ≡ place_shown fails (length events)
  pub statuses : moment.statuses.items ≡ statuses doc.graph.graph inputs (first_events events moment.place)
  pub failing : moment.failing ≡ failing_in doc.claims fails

-- The document's journal is a run with an event, and the moment is the one that is drawn of it.
pub record ShowsRun (doc : DocumentValue) (moment : Moment) : Type 0 where
  pub events : List Event
  pub run : HasRun doc events
  pub some : events ≡ [] → ⊥
  pub shows : IsMoment doc run.inputs events moment

-- the document's journal is no run with an event
abbrev pub HasNoEvent : DocumentValue → Type 0
HasNoEvent doc = (events : List Event) → HasRun doc events → events ≡ []

-- the moment that is drawn, if the journal is a run with an event
abbrev pub IsMomentOf : DocumentValue → Option Moment → Type 0
IsMomentOf doc None = HasNoEvent doc
IsMomentOf doc (Some moment) = ShowsRun doc moment

-- what the nodes of tasks show: how the tasks stand in the document's run, or, where it has none, how they may end
abbrev pub IsShown : DocumentValue → Shown → Type 0
IsShown doc (Endings ends) = AreEndings doc ends.items × HasNoEvent doc
IsShown doc (Run moment) = ShowsRun doc moment

-- the answer is the picture of the document's graph, whose nodes show this
abbrev pub IsDrawing : Language → DocumentValue → Exit → List ℕ → Type 0
IsDrawing language doc exit text =
    (exit ≡ Success) × ((shown : Shown) × IsShown doc shown × (text ≡ picture language doc.graph shown))

-- the answer of `draw` to bytes
abbrev pub Draws : Language → Answers
Draws language = ToDocument (IsDrawing language)
