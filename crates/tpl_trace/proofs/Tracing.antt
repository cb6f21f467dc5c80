-- From what is answered to what was read and written.
use Rattle.std.proofs.Common.{◌≡◌, ◌<◌, ℕ, List, [], ◌∷◌, length, Option, Result, Ok, Err, IfOk, string_bytes, subst, inl, inr, arith}
use Rattle.std.specs.declared.alloc.AllocError.{AllocError}
use Rattle.tpl_commands.proofs.Responses.{said}
use Rattle.tpl_audit.specs.declared.verdict.Verdict.{Verdict}
use Rattle.tpl_audit.specs.declared.verdict.Verdict.TheVariants as ruled
use Rattle.tpl_journal.specs.declared.counting.Counting.{Counting}
use Rattle.tpl_model.specs.declared.event.Event.{Event}
use Rattle.tpl_reader.specs.declared.fault.ReadFault.{ReadFault}
use Rattle.tpl_reader.specs.declared.fault.ReadFault.TheVariants as faults
use Rattle.tpl_reader.specs.Document.{DocumentValue, Spells, IsFault}
use Rattle.tpl_reader.specs.Laws.{SpellsOneDocument, SpelledHasNoFault}
use Rattle.tpl_commands.specs.declared.exit.Exit.{Exit}
use Rattle.tpl_commands.specs.declared.exit.Exit.TheVariants.{Success}
use Rattle.tpl_commands.specs.declared.auditing.Audit.{Audit}
use Rattle.tpl_commands.specs.declared.auditing.Audit.TheVariants.{NoStart, NoJournal, Judged}
use Rattle.tpl_commands.specs.declared.responding.Answered.{Answered}
use Rattle.tpl_commands.specs.Auditing.{Audits, HasRun, IsAudited, IsAuditAnswer, IsAuditOf, verdict_exit}
use Rattle.tpl_commands.specs.Documents.{NoDocument}
use Rattle.tpl_commands.specs.Responding.{Responds}
use Rattle.tpl_trace.specs.Answer.{IsTracedSome, SpellsNoRun, Traces, Traced, traced_exit}

-- the audit doesn't succeed where the journal is no run
verdict_never : (input : List ℕ) (doc : DocumentValue) (verdict : Verdict) → SpellsNoRun input → Spells input doc → IsAudited doc verdict → Success ≡ verdict_exit verdict → ⊥
verdict_never input doc (ruled.Run complete fails other) none spelled is ends = none doc is.events spelled (record { inputs = is.inputs; known = is.known; journal = is.journal; run = is.audited.run })
verdict_never input doc (ruled.NotAllowed place) none spelled is ends = absurd cc
verdict_never input doc ruled.Memory none spelled is ends = absurd cc

audit_never : (input : List ℕ) (doc : DocumentValue) (audit : Audit) (text : List ℕ) → SpellsNoRun input → Spells input doc → IsAuditOf doc audit → IsAuditAnswer doc.graph.names audit Success text → ⊥
audit_never input doc NoStart text none spelled is said = let e = said.0 in absurd cc
audit_never input doc (Judged verdict) text none spelled is said = verdict_never input doc verdict none spelled is said.0
audit_never input doc (NoJournal fault) text none spelled is said = let e = said.0 in absurd cc

audits_never : (input text : List ℕ) → SpellsNoRun input → Audits input Success text → ⊥
audits_never input text none (inl is) = audit_never input is.0 is.2.0 text none is.1 is.2.1 is.2.2
audits_never input text none (inr is) = let e = is.2 in absurd cc

-- what a success says
some_event : (events : List Event) → Success ≡ traced_exit events → 0 < length events
some_event [] ends = absurd cc
some_event (event ∷ events) ends = omega arith

drawn : (input text : List ℕ) → Traces input Success text → (doc : DocumentValue) × Spells input doc × IsTracedSome doc text
drawn input text (inl is) = (is.0, is.1, (is.2, some_event is.2.events is.3))
drawn input text (inr is) = absurd (audits_never input text is.0 is.1)

-- what is answered where the journal of a document that was read is no run
pub other_traces : SpellsOneDocument → (input : List ℕ) (doc : DocumentValue) (audit : Audit) (exit : Exit) (text : List ℕ) → Spells input doc → IsAuditOf doc audit → ((events : List Event) → HasRun doc events → ⊥) → IsAuditAnswer doc.graph.names audit exit text → Traces input exit text
other_traces one input doc audit exit text spelled is none said =
    inr ((λ other events also run. none events (subst (λ (d : DocumentValue). HasRun d events) (one input doc other spelled also) run)), inl (doc, spelled, (audit, is, said)))

-- what is answered where the bytes spell no document
pub unread_traces : SpellsOneDocument → SpelledHasNoFault → (input : List ℕ) (fault : ReadFault) → IsFault input fault → (r : Result Answered AllocError) → IfOk r (λ it. fault ≡ faults.Memory → ⊥)
    → IfOk r (λ it. NoDocument input it.answer.exit (string_bytes it.answer.text)) → IfOk r (λ it. Traces input it.answer.exit (string_bytes it.answer.text))
unread_traces one faultless input fault is (Ok it) other none = inr ((λ doc events spelled run. other (faultless input doc fault spelled is)), inr none)
unread_traces one faultless input fault is (Err e) other none = tt

pub success_traces : {R W : Type 0} (remaining : R → Option (List ℕ)) (from_old from_new : Counting R) (contents : W → Option (List ℕ)) (old new : Counting W) (result : Exit) → Responds Traces remaining from_old from_new contents old new result → result ≡ Success → Traced remaining from_old from_new contents old new
success_traces remaining from_old from_new contents old new result responds e =
    let s = said remaining from_old from_new contents old new result Traces (inl e) responds in
    let d = drawn s.input s.text (subst (λ (x : Exit). Traces s.input x s.text) e s.is) in
    record { input = s.input; reads = s.reads; doc = d.0; spelled = d.1; text = s.text; is = d.2; writes = s.writes }
