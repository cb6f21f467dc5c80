-- What the program does with what comes, by the line that the words of the command line name.
use Rattle.std.specs.Prelude.{◌≡◌, ◌⊎◌, ◌+◌, ◌≤◌, ℕ, Bool, true, false, List, Option, codes}
use Rattle.tpl_commands.specs.declared.exit.Exit.{Exit}
use Rattle.tpl_commands.specs.declared.exit.Exit.TheVariants.{Success, Failure, Memory}
use Rattle.tpl_commands.specs.Documents.{NoDocument}
use Rattle.tpl_commands.specs.Loading.{Loads}
use Rattle.tpl_commands.specs.Responding.{Puts, Responds}
use Rattle.tpl_commands.specs.Serving.{Serves, answers_of}
use Rattle.tpl_each.specs.Serving.{RespondsToEach}
use Rattle.tpl_journal.specs.Counting.{calls_of}
use Rattle.tpl_journal.specs.declared.counting.Counting.{Counting}
use Rattle.tpl_reader.specs.Document.{DocumentValue, longest}
use Rattle.tpl_report.specs.Prevents.{StopsSession}
use Rattle.tpl_report.specs.Running.{ServesRun}
use Rattle.tpl_report.specs.Telling.{IsToldOf}
use Rattle.tpl_report.specs.declared.telling.Telling.{Telling}
use Rattle.tpl_report.specs.declared.telling.Telling.TheVariants.{Report, Whole}
use Rattle.tpl_shown.specs.Answer.{AuditShown, ShowsAudit}
use Rattle.tpl_trace.specs.Answer.{Traced, Traces}
use Rattle.tpl_verdicts.specs.Answer.{Judged, Verified, Verifies}
use Rattle.tpl_verdicts.specs.Streaming.{Streams}
use Rattle.tpl_verdicts.specs.declared.style.Style.{Style}
use Rattle.tpl_verify.specs.Serving.{Refuted, ShowsFailure, Unrefuted}
use Rattle.tpl_verify.specs.Witness.{Searches}
use Rattle.tpl_cli.specs.declared.line.Line.{Line}
use Rattle.tpl_cli.specs.declared.line.Line.TheVariants as line

-- a run is told as a document exactly where that is asked for
abbrev pub TellsAs : Bool → Telling → Type 0
TellsAs false Report = Unit {0}
TellsAs false (Whole bytes) = ⊥
TellsAs true Report = ⊥
TellsAs true (Whole bytes) = Unit {0}

-- The run of a document with this program's boxes, by this many workers: no report is prevented but by what stops a session
-- with its items. Or there was no memory for the boxes.
abbrev pub ServesBoxes : {W : Type 0} → Telling → DocumentValue → ℕ → (W → Option (List ℕ)) → Counting W → Counting W → Exit → Type 0
ServesBoxes telling doc workers contents old new result =
    ServesRun telling doc workers (λ _. StopsSession) contents old new result
    ⊎ Puts contents old new Memory (codes "out of memory\n") result

-- what was read spells a document, which was run by this many workers and told so
pub record RunsLoaded {R W : Type 0} (workers : ℕ) (is_whole : Bool) (remaining : R → Option (List ℕ)) (from_old from_new : Counting R) (contents : W → Option (List ℕ)) (to_old to_new : Counting W) (result : Exit) : Type 0 where
  pub doc : DocumentValue
  pub loads : Loads remaining from_old from_new doc
  pub telling : Telling
  pub asked : TellsAs is_whole telling
  pub told : IsToldOf telling doc
  pub serves : ServesBoxes telling doc workers contents to_old to_new result

-- what `run` does: so it is, or what was read spells no document
pub record RunsDocument {R W : Type 0} (workers : ℕ) (is_whole : Bool) (remaining : R → Option (List ℕ)) (from_old from_new : Counting R) (contents : W → Option (List ℕ)) (to_old to_new : Counting W) (result : Exit) : Type 0 where
  pub runs : RunsLoaded workers is_whole remaining from_old from_new contents to_old to_new result
      ⊎ Responds NoDocument remaining from_old from_new contents to_old to_new result
  pub reads : calls_of from_new ≤ calls_of from_old + (longest + 2)

-- what `refute` does with one document, of this claim or of each
pub record RefutesDocument {R W : Type 0} (claim : Option ℕ) (remaining : R → Option (List ℕ)) (from_old from_new : Counting R) (contents : W → Option (List ℕ)) (to_old to_new : Counting W) (result : Exit) : Type 0 where
  pub responds : Responds (Searches claim) remaining from_old from_new contents to_old to_new result
  pub reads : calls_of from_new ≤ calls_of from_old + (longest + 2)
  pub fails : result ≡ Failure → ShowsFailure remaining from_old from_new contents to_old to_new claim
  pub refuted : result ≡ Failure → Refuted remaining from_old from_new contents to_old to_new claim
  pub unrefuted : result ≡ Success → Unrefuted remaining from_old from_new contents to_old to_new claim

-- what `verify` does with one document, by certificates with at most so many splits and by so many random runs, in this style
pub record VerifiesDocument {R W : Type 0} (depth runs : ℕ) (style : Style) (remaining : R → Option (List ℕ)) (from_old from_new : Counting R) (contents : W → Option (List ℕ)) (to_old to_new : Counting W) (result : Exit) : Type 0 where
  pub streams : Streams remaining from_old from_new contents to_old to_new depth runs style result
  pub reads : calls_of from_new ≤ calls_of from_old + (longest + 2)
  pub judged : (result ≡ Success) ⊎ (result ≡ Failure)
      → Judged remaining from_old from_new contents to_old to_new style result
  pub verified : (result ≡ Success) ⊎ (result ≡ Failure)
      → Verified remaining from_old from_new contents to_old to_new depth runs style result

-- what `verify` does: the claims of one document are answered, or those of the document on each line
abbrev pub VerifiesAs : {R W : Type 0} → Bool → (depth runs : ℕ) → Style → (R → Option (List ℕ)) → Counting R → Counting R → (W → Option (List ℕ)) → Counting W → Counting W → Exit → Type 0
VerifiesAs false depth runs style remaining from_old from_new contents to_old to_new result =
    VerifiesDocument depth runs style remaining from_old from_new contents to_old to_new result
VerifiesAs true depth runs style remaining from_old from_new contents to_old to_new result =
    RespondsToEach (Verifies depth runs style) remaining from_old from_new contents to_old to_new result

-- what `trace` does
pub record TracesDocument {R W : Type 0} (remaining : R → Option (List ℕ)) (from_old from_new : Counting R) (contents : W → Option (List ℕ)) (to_old to_new : Counting W) (result : Exit) : Type 0 where
  pub responds : Responds Traces remaining from_old from_new contents to_old to_new result
  pub reads : calls_of from_new ≤ calls_of from_old + (longest + 2)
  pub traced : result ≡ Success → Traced remaining from_old from_new contents to_old to_new

-- what `audit --as html` does
pub record AuditsAsPage {R W : Type 0} (remaining : R → Option (List ℕ)) (from_old from_new : Counting R) (contents : W → Option (List ℕ)) (to_old to_new : Counting W) (result : Exit) : Type 0 where
  pub responds : Responds ShowsAudit remaining from_old from_new contents to_old to_new result
  pub reads : calls_of from_new ≤ calls_of from_old + (longest + 2)
  pub shown : (result ≡ Success) ⊎ (result ≡ Failure)
      → AuditShown remaining from_old from_new contents to_old to_new result

-- how the program ends, what it read and what it wrote, where this line is named
abbrev pub Does : {R W : Type 0} → Line → (R → Option (List ℕ)) → Counting R → Counting R → (W → Option (List ℕ)) → Counting W → Counting W → Exit → Type 0
Does (line.Serve ask) remaining from_old from_new contents to_old to_new result =
    Serves ask remaining from_old from_new contents to_old to_new result
Does (line.Each ask jobs) remaining from_old from_new contents to_old to_new result =
    RespondsToEach (answers_of ask) remaining from_old from_new contents to_old to_new result
Does (line.Run workers is_whole) remaining from_old from_new contents to_old to_new result =
    RunsDocument workers is_whole remaining from_old from_new contents to_old to_new result
Does (line.Refute claim tries explains) remaining from_old from_new contents to_old to_new result =
    RefutesDocument claim remaining from_old from_new contents to_old to_new result
Does (line.Verify depth tries jobs style is_each) remaining from_old from_new contents to_old to_new result =
    VerifiesAs is_each depth tries.runs style remaining from_old from_new contents to_old to_new result
Does line.Trace remaining from_old from_new contents to_old to_new result =
    TracesDocument remaining from_old from_new contents to_old to_new result
Does line.AuditPage remaining from_old from_new contents to_old to_new result =
    AuditsAsPage remaining from_old from_new contents to_old to_new result
