-- What the audit says of a document with a run that refutes a claim.
use Rattle.std.proofs.Common.{◌≡◌, ◌∙◌, ℕ, zero, suc, ◌⊎◌, inl, inr, Bool, List, [], ◌∷◌, ◌++◌, length, take, reverse, Option, Some, None, refl, sym, ap, subst, arith}
use Rattle.std.specs.Prelude.{slice_get}
use Rattle.std.specs.List.{All}
use Rattle.std.proofs.lemmas.List.{reverse-append, take_all}
use Rattle.std.proofs.lemmas.Option.{get_or_from_slice_get, slice_get_within}
use Rattle.tpl_commands.proofs.TakenBack.{unreadable_never}
use Rattle.tpl_laws.specs.Runs.{PrefixIsRun}
use Rattle.tpl_model.specs.declared.finals.Final.{Final}
use Rattle.tpl_model.specs.declared.ids.TaskId.{TaskId}
use Rattle.tpl_model.specs.Graph.{TaskGraph}
use Rattle.tpl_draft.specs.Named.{Names}
use Rattle.tpl_model.specs.declared.event.Event.{Event}
use Rattle.tpl_model.specs.Claims.{Claim, Holds}
use Rattle.tpl_model.specs.Rules.{Run}
use Rattle.tpl_graph.specs.Kept.{IsNamedGraph}
use Rattle.tpl_journal.specs.Lines.{IsJournal, lines, TextIsUnambiguous, FaultIsNoJournal}
use Rattle.tpl_audit.specs.declared.verdict.Verdict.{Verdict}
use Rattle.tpl_audit.specs.declared.verdict.Verdict.TheVariants as ruled
use Rattle.tpl_audit.specs.Audit.{first_events, AllHoldAt, FirstFails, IsFirstRefused, IsVerdict}
use Rattle.tpl_refute.specs.Refuting.{Refutes}
use Rattle.tpl_audit.proofs.FailLemmas.{front_run}
use Rattle.tpl_reader.specs.Begin.{StartValue}
use Rattle.tpl_reader.specs.Document.{DocumentValue, Spells}
use Rattle.tpl_reader.specs.Laws.{SpellsOneDocument, SpelledHasNoFault}
use Rattle.tpl_commands.specs.declared.exit.Exit.{Exit}
use Rattle.tpl_commands.specs.declared.exit.Exit.TheVariants.{Memory}
use Rattle.tpl_commands.specs.declared.auditing.Audit.{Audit}
use Rattle.tpl_commands.specs.declared.auditing.Audit.TheVariants.{NoStart, NoJournal, Judged}
use Rattle.tpl_commands.specs.Auditing.{IsAudit, IsAudited, IsAuditAnswer, IsAuditOf, verdict_exit, verdict_text}
use Rattle.tpl_reader.specs.Starting.{inputs_of}
use Rattle.tpl_verify.specs.Asking.{IsNumbered}
use Rattle.tpl_verify.specs.Filled.{started}
use Rattle.tpl_verify.specs.Witness.{refuted_by, NamesFailure, IsAuditedSo}

-- ---- the verdict on the run

there : (P : Claim → Type 0) (claims : List Claim) (at : ℕ) (claim : Claim) → All P claims → slice_get claims at ≡ Some claim → P claim
there P claims at claim all e = subst P (get_or_from_slice_get claims at claim claim e) (all at claim (slice_get_within claims at claim e))

-- the events up to and with one more
next_event : (events : List Event) (n : ℕ) (event : Event) → slice_get events n ≡ Some event → take (suc n) events ≡ take n events ++ event ∷ []
next_event [] zero event e = absurd (cc)
next_event [] (suc n) event e = absurd (cc)
next_event (x ∷ events) zero event e = let same : x ≡ event = cc in cc
next_event (x ∷ events) (suc n) event e = ap (λ rest. x ∷ rest) (next_event events n event e)

-- no event of a run is refused
is_allowed : (g : TaskGraph) (claim : Claim) (v : List Bool) (events : List Event) (place : ℕ) → PrefixIsRun → IsFirstRefused g v events place → Refutes g claim v events → ⊥
is_allowed g claim v events place prefix refused r =
    let parts : first_events events (suc refused.before) ≡ refused.event ∷ first_events events refused.before =
    ap reverse (next_event events refused.before refused.event refused.there) ∙ reverse-append (take refused.before events) (refused.event ∷ []) in
    refused.refused (subst (Run g v) parts (front_run g v events (suc refused.before) prefix r.run)).1

module _ (names : Names) (g : TaskGraph) (claims : List Claim) (ended : List (TaskId × Final)) (claim : Claim) (number : ℕ) (inputs : List Bool) (events : List Event) (numbered : IsNumbered claims number claim) (refutes : Refutes g claim inputs events) where
  never_all : FirstFails g inputs events claims None → ⊥
  never_all none =
      let all : AllHoldAt g inputs events claims (length events) = none (length events) (omega arith) in
      let holds = there (λ c. Holds g c inputs (first_events events (length events))) claims numbered.0 claim all numbered.2 in
      refutes.fails (subst (Holds g claim inputs) (ap reverse (take_all (length events) events (omega arith))) holds)

  names_failure : PrefixIsRun → (verdict : Verdict) (exit : Exit) (text : List ℕ) → IsVerdict g inputs events claims ended verdict → exit ≡ verdict_exit verdict → text ≡ verdict_text names verdict
      → (exit ≡ Memory) ⊎ NamesFailure names (length events) exit text
  names_failure prefix (ruled.Run complete None other_end) exit text is ends said = absurd (never_all is.failure)
  names_failure prefix (ruled.Run complete (Some failure) None) exit text is ends said =
      inr (record { ends = ends; complete = complete; failure = failure; early = is.failure.within; other_end = None; said = said })
  names_failure prefix (ruled.Run complete (Some failure) (Some other)) exit text is ends said =
      inr (record { ends = ends; complete = complete; failure = failure; early = is.failure.within; other_end = Some other; said = said })
  names_failure prefix (ruled.NotAllowed place) exit text is ends said = absurd (is_allowed g claim inputs events place prefix is refutes)
  names_failure prefix ruled.Memory exit text is ends said = inl ends

-- ---- the audit of the document

started_inputs : (start : Option StartValue) (inputs : List Bool) → (started start inputs).inputs ≡ inputs
started_inputs None inputs = refl
started_inputs (Some start) inputs = refl

the_same : (a b : List Bool) → Some a ≡ Some b → a ≡ b
the_same a b e = cc

module _ (doc : DocumentValue) (claim : Claim) (number : ℕ) (inputs : List Bool) (events : List Event) (numbered : IsNumbered doc.claims number claim) (refutes : Refutes doc.graph.graph claim inputs events)
    (named : IsNamedGraph doc.graph) (journal : IsJournal doc.graph (lines doc.graph.names events) events) (prefix : PrefixIsRun) (unambiguous : TextIsUnambiguous) (no_journal : FaultIsNoJournal) where
  known : inputs_of (refuted_by doc inputs events) ≡ Some inputs
  known = ap (λ v. Some v) (started_inputs doc.start inputs)

  of_verdict : (verdict : Verdict) (exit : Exit) (text : List ℕ) → IsAudited (refuted_by doc inputs events) verdict → exit ≡ verdict_exit verdict → text ≡ verdict_text doc.graph.names verdict → (exit ≡ Memory) ⊎ NamesFailure doc.graph.names (length events) exit text
  of_verdict verdict exit text is ends said =
      let same : events ≡ is.events = unambiguous doc.graph events is.events named journal.spelled is.journal.spelled is.journal.reads in
      let values : is.inputs ≡ inputs = the_same is.inputs inputs (sym is.known ∙ known) in
      let judged = subst (λ (v : List Bool). IsVerdict doc.graph.graph v is.events doc.claims [] verdict) values is.audited in
      let judged_so : IsVerdict doc.graph.graph inputs events doc.claims [] verdict = subst (λ (h : List Event). IsVerdict doc.graph.graph inputs h doc.claims [] verdict) (sym same) judged in
      names_failure doc.graph.names doc.graph.graph doc.claims [] claim number inputs events numbered refutes prefix verdict exit text judged_so ends said

  of_audit : (audit : Audit) (exit : Exit) (text : List ℕ) → IsAuditOf (refuted_by doc inputs events) audit → IsAuditAnswer doc.graph.names audit exit text → (exit ≡ Memory) ⊎ NamesFailure doc.graph.names (length events) exit text
  of_audit NoStart exit text is said = let e : None ≡ Some inputs = sym is ∙ known in absurd cc
  of_audit (Judged verdict) exit text is said = of_verdict verdict exit text is said.0 said.1
  of_audit (NoJournal fault) exit text is said = absurd (no_journal doc.graph (lines doc.graph.names events) fault events named is.is is.other journal)

  pub audited_so : (bytes : List ℕ) → SpellsOneDocument → SpelledHasNoFault → Spells bytes (refuted_by doc inputs events) → IsAuditedSo doc.graph.names (length events) bytes
  audited_so bytes one faultless spelled exit text (inl found) =
      let is : IsAudit (refuted_by doc inputs events) exit text = subst (λ (d : DocumentValue). IsAudit d exit text) (one bytes (refuted_by doc inputs events) found.0 spelled found.1) found.2 in
      of_audit is.0 exit text is.1 is.2
  audited_so bytes one faultless spelled exit text (inr wrong) =
      absurd (unreadable_never wrong.0 text (faultless bytes (refuted_by doc inputs events) wrong.0 spelled wrong.1) wrong.3)
