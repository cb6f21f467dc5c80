-- From a session's report to what is written of it.
use Rattle.std.proofs.Common.{◌≡◌, ◌∙◌, ℕ, zero, suc, ◌<◌, Bool, true, false, List, [], ◌∷◌, length, length-append, map, Option, Some, None, Result, Ok, Err, codes, refl, sym, ap, subst, inl, inr, arith}
use Rattle.std.specs.Prelude.{reverse, IfOk, IfErr, MatchResult, string_bytes}
use Rattle.std.specs.declared.alloc.AllocError.{AllocError}
use Rattle.tpl_model.specs.declared.fault.CertFault.{CertFault}
use Rattle.tpl_commands.specs.declared.answer.Answer.{Answer}
use Rattle.std.specs.List.{All}
use Rattle.std.proofs.lemmas.List.{get_or-map, length-map}
use Rattle.tpl_draft.specs.Named.{Named}
use Rattle.tpl_journal.specs.declared.counting.Counting.{Counting}
use Rattle.tpl_journal.specs.Lines.{CanSpell}
use Rattle.tpl_reader.specs.Document.{DocumentValue}
use Rattle.tpl_journal.specs.ReportText.{ReportValue, IsReportOf}
use Rattle.tpl_journal.specs.Writing.{Writes}
use Rattle.tpl_runtime.specs.Reports.{each_below}
use Rattle.tpl_runtime.specs.declared.closing.Report.{Report}
use Rattle.tpl_report.specs.declared.fault.RunFault.{RunFault}
use Rattle.tpl_report.specs.declared.fault.Stop.{Stop}
use Rattle.tpl_report.specs.declared.fault.Stop.TheVariants.{Fault as Stopped, Memory as NoMemory}
use Rattle.tpl_report.specs.Prevents.{StopsFor}
use Rattle.tpl_report.specs.RunTexts.{fault_line}
use Rattle.tpl_commands.specs.declared.exit.Exit.{Exit}
use Rattle.tpl_commands.specs.declared.exit.Exit.TheVariants.{Success, Failure, Usage, Unreadable, Memory, Device, Fault}
use Rattle.tpl_commands.specs.Checking.{IsAccepted, IsRefused, IsRefusal}
use Rattle.tpl_report.specs.Made.{IsMadeBy, requests_of}
use Rattle.tpl_report.specs.Reported.{IsReport, told}
use Rattle.tpl_commands.specs.Responding.{Puts}
use Rattle.tpl_report.specs.Telling.{report_exit, Tells, IsUntold, IsTelling, PutsTelling}
use Rattle.tpl_report.specs.declared.telling.Telling.{Telling}
use Rattle.tpl_report.specs.Running.{stop_exit, stop_text, IsReported, RunsFrom, RunsWith, Runs, Completes, ServesRun}
use Rattle.tpl_reader.specs.Starting.{inputs_of}

-- what holds of each number holds of what it is the number of
pub all_mapped : {X Y : Type 0} (f : X → Y) (P : Y → Type 0) (xs : List X) → All P (map f xs) → All (λ x. P (f x)) xs
all_mapped f P xs all = λ k d lt.
    subst P (get_or-map f xs k d (f d) lt) (all k (f d) (subst (λ (n : ℕ). k < n) (sym (length-map xs f)) lt))

length-each_below : {A : Type 0} (f : ℕ → A) (n : ℕ) → length (each_below f n) ≡ n
length-each_below f zero = refl
length-each_below f (suc n) = omega (arith, length-append (each_below f n) (f n ∷ []), length-each_below f n)

-- a report of a run can be written
pub report_is_of : (n : Named) (inputs : List Bool) (r : ReportValue) → IsReport n inputs r → All (CanSpell n.graph) r.journal → IsReportOf n r
report_is_of n inputs r is events = record {
  statuses = ap length is.told.statuses ∙ length-each_below _ (length n.graph.tasks);
  carried = ap length is.told.carried ∙ length-each_below _ (length n.graph.tasks);
  events = events;
}

-- what is told of a run, with the run

module _ (telling : Telling) (doc : DocumentValue) (inputs : List Bool) (workers : ℕ) (prevents : Named → ℕ → RunFault → Type 0) where
  report_runs : (complete : Bool) (text : List ℕ) → IsReported doc inputs workers complete (Tells telling doc inputs) text → RunsWith telling doc inputs workers prevents (report_exit complete) text
  report_runs true text is = is
  report_runs false text is = inl is

  module _ (r : ReportValue) (accepted : IsAccepted doc) (is : IsReport doc.graph inputs r) (made : IsMadeBy doc.graph.graph inputs workers (requests_of doc.start) r.journal) where
    reported : (is_told : ReportValue → List ℕ → Type 0) (text : List ℕ) → is_told r text → IsReported doc inputs workers r.complete is_told text
    reported is_told text told = record {
      accepted = accepted;
      report = r;
      of_run = is;
      made = made;
      hold = accepted.hold inputs (reverse r.journal) is.run;
      says = refl;
      told = told;
    }

    telling_runs : (exit : Exit) (text : List ℕ) → IsTelling telling doc inputs r exit text → RunsWith telling doc inputs workers prevents exit text
    telling_runs exit text (inl t) =
        subst (λ (e : Exit). RunsWith telling doc inputs workers prevents e text) (sym t.0) (report_runs r.complete text (reported (Tells telling doc inputs) text t.1))
    telling_runs exit text (inr (inl t)) =
        subst (λ (e : Exit). RunsWith telling doc inputs workers prevents e text) (sym t.0) (inr (inl (r.complete, reported (IsUntold telling doc inputs) text t.1)))
    telling_runs exit text (inr (inr t)) = subst (λ (e : Exit). RunsWith telling doc inputs workers prevents e text) (sym t.0) t.1

    told_runs : {W : Type 0} (contents : W → Option (List ℕ)) (old new : Counting W) (result : Exit) → PutsTelling telling doc inputs r contents old new result → Runs telling doc (Some inputs) workers prevents contents old new result
    told_runs contents old new result p = record { exit = p.exit; text = p.text; runs = telling_runs p.exit p.text p.tells; puts = p.puts }

  -- what is made of a run, with its exit
  pub made_runs : {K V W : Type 0} (made : Result (Report K V) Stop) (contents : W → Option (List ℕ)) (old new : Counting W) (result : Exit) → IsAccepted doc → IfOk made (λ r. IsReport doc.graph inputs (told r))
      → IfOk made (λ r. IsMadeBy doc.graph.graph inputs workers (requests_of doc.start) r.journal.items) → IfErr made (StopsFor (prevents doc.graph workers))
      → MatchResult made (λ r. PutsTelling telling doc inputs (told r) contents old new result) (λ stop. Puts contents old new (stop_exit stop) (stop_text stop) result)
      → Runs telling doc (Some inputs) workers prevents contents old new result
  made_runs (Ok r) contents old new result accepted is by stops puts = told_runs (told r) accepted is by contents old new result puts
  made_runs (Err NoMemory) contents old new result accepted is by stops puts = record { exit = Memory; text = codes "out of memory\n"; runs = refl; puts = puts }
  made_runs (Err (Stopped fault)) contents old new result accepted is by stops puts = record {
    exit = Fault;
    text = fault_line fault;
    runs = record { accepted = accepted; fault = fault; why = stops; names = refl };
    puts = puts;
  }

-- the line for a certificate that is refused
pub refused : {W : Type 0} (telling : Telling) (doc : DocumentValue) (inputs : List Bool) (workers : ℕ) (prevents : Named → ℕ → RunFault → Type 0) (fault : CertFault) (contents : W → Option (List ℕ)) (old new : Counting W) (result : Exit) (r : Result Answer AllocError) → IsRefused doc fault
    → IfOk r (λ given. (given.exit ≡ Failure) × IsRefusal doc.graph.names.tasks fault (string_bytes given.text))
    → MatchResult r (λ given. Puts contents old new given.exit (string_bytes given.text) result) (λ _. Puts contents old new Memory (codes "out of memory\n") result)
    → Runs telling doc (Some inputs) workers prevents contents old new result
refused telling doc inputs workers prevents fault contents old new result (Ok given) wrong is puts = record {
  exit = Failure;
  text = string_bytes given.text;
  runs = inr (inr (fault, wrong, is.1));
  puts = subst (λ (e : Exit). Puts contents old new e (string_bytes given.text) result) is.0 puts;
}
refused telling doc inputs workers prevents fault contents old new result (Err e) wrong is puts = record {
  exit = Memory;
  text = codes "out of memory\n";
  runs = refl;
  puts = puts;
}

-- what a run's end says of what was written

success_completes : {W : Type 0} (telling : Telling) (doc : DocumentValue) (inputs : Option (List Bool)) (workers : ℕ) (prevents : Named → ℕ → RunFault → Type 0) (contents : W → Option (List ℕ)) (old new : Counting W) (exit : Exit) (text : List ℕ) → inputs_of doc ≡ inputs → exit ≡ Success → RunsFrom telling doc inputs workers prevents exit text → Writes contents old new text → Completes telling doc workers contents old new
success_completes telling doc None workers prevents contents old new exit text known e runs writes = let f = sym e ∙ runs.0 in absurd cc
success_completes telling doc (Some inputs) workers prevents contents old new Success text known e runs writes = record { inputs = inputs; known = known; text = text; reported = runs; writes = writes }
success_completes telling doc (Some inputs) workers prevents contents old new Failure text known e runs writes = absurd cc
success_completes telling doc (Some inputs) workers prevents contents old new Usage text known e runs writes = absurd cc
success_completes telling doc (Some inputs) workers prevents contents old new Unreadable text known e runs writes = absurd cc
success_completes telling doc (Some inputs) workers prevents contents old new Memory text known e runs writes = absurd cc
success_completes telling doc (Some inputs) workers prevents contents old new Device text known e runs writes = absurd cc
success_completes telling doc (Some inputs) workers prevents contents old new Fault text known e runs writes = absurd cc

pub run_completes : {W : Type 0} (telling : Telling) (doc : DocumentValue) (inputs : Option (List Bool)) (workers : ℕ) (prevents : Named → ℕ → RunFault → Type 0) (contents : W → Option (List ℕ)) (old new : Counting W) (result : Exit) → inputs_of doc ≡ inputs → Runs telling doc inputs workers prevents contents old new result → result ≡ Success → Completes telling doc workers contents old new
run_completes telling doc inputs workers prevents contents old new result known r e = go r.puts
  where
    go : Puts contents old new r.exit r.text result → Completes telling doc workers contents old new
    go (inl w) = success_completes telling doc inputs workers prevents contents old new r.exit r.text known (sym w.0 ∙ e) r.runs w.1
    go (inr f) = let d = sym e ∙ f.0 in absurd cc

memory_writes : {W : Type 0} (telling : Telling) (doc : DocumentValue) (inputs : Option (List Bool)) (workers : ℕ) (prevents : Named → ℕ → RunFault → Type 0) (contents : W → Option (List ℕ)) (old new : Counting W) (exit : Exit) (text : List ℕ) → exit ≡ Memory → RunsFrom telling doc inputs workers prevents exit text → Writes contents old new text → Writes contents old new (codes "out of memory\n")
memory_writes telling doc None workers prevents contents old new exit text e runs writes = let f = sym e ∙ runs.0 in absurd cc
memory_writes telling doc (Some inputs) workers prevents contents old new Success text e runs writes = absurd cc
memory_writes telling doc (Some inputs) workers prevents contents old new Failure text e runs writes = absurd cc
memory_writes telling doc (Some inputs) workers prevents contents old new Usage text e runs writes = absurd cc
memory_writes telling doc (Some inputs) workers prevents contents old new Unreadable text e runs writes = absurd cc
memory_writes telling doc (Some inputs) workers prevents contents old new Memory text e runs writes = subst (λ (t : List ℕ). Writes contents old new t) runs writes
memory_writes telling doc (Some inputs) workers prevents contents old new Device text e runs writes = absurd cc
memory_writes telling doc (Some inputs) workers prevents contents old new Fault text e runs writes = absurd cc

pub run_starves : {W : Type 0} (telling : Telling) (doc : DocumentValue) (inputs : Option (List Bool)) (workers : ℕ) (prevents : Named → ℕ → RunFault → Type 0) (contents : W → Option (List ℕ)) (old new : Counting W) (result : Exit) → Runs telling doc inputs workers prevents contents old new result → result ≡ Memory → Writes contents old new (codes "out of memory\n")
run_starves telling doc inputs workers prevents contents old new result r e = go r.puts
  where
    go : Puts contents old new r.exit r.text result → Writes contents old new (codes "out of memory\n")
    go (inl w) = memory_writes telling doc inputs workers prevents contents old new r.exit r.text (sym w.0 ∙ e) r.runs w.1
    go (inr f) = let d = sym e ∙ f.0 in absurd cc

-- what a run leaves is what `run` says
pub serves : {W : Type 0} (telling : Telling) (doc : DocumentValue) (inputs : Option (List Bool)) (workers : ℕ) (prevents : Named → ℕ → RunFault → Type 0) (contents : W → Option (List ℕ)) (old new : Counting W) (result : Exit) → inputs_of doc ≡ inputs → Runs telling doc inputs workers prevents contents old new result → ServesRun telling doc workers prevents contents old new result
serves telling doc inputs workers prevents contents old new result known r = record {
  runs = subst (λ i. Runs telling doc i workers prevents contents old new result) (sym known) r;
  complete = run_completes telling doc inputs workers prevents contents old new result known r;
  memory = run_starves telling doc inputs workers prevents contents old new result r;
}
