-- From the page of an audit to what was read and written.
use Rattle.std.proofs.Common.{◌≡◌, ℕ, inl, inr, List, Option, Result, Ok, Err, IfOk, string_bytes}
use Rattle.std.specs.declared.alloc.AllocError.{AllocError}
use Rattle.tpl_draft.specs.Named.{Names}
use Rattle.tpl_journal.specs.declared.counting.Counting.{Counting}
use Rattle.tpl_commands.specs.declared.auditing.Audit.{Audit}
use Rattle.tpl_commands.specs.declared.auditing.Audit.TheVariants.{NoStart, NoJournal, Judged}
use Rattle.tpl_commands.specs.declared.exit.Exit.{Exit}
use Rattle.tpl_commands.specs.declared.exit.Exit.TheVariants.{Unreadable}
use Rattle.tpl_commands.specs.declared.responding.Answered.{Answered}
use Rattle.tpl_commands.specs.Auditing.{IsAuditAnswer, IsAuditOf}
use Rattle.tpl_commands.specs.Documents.{NoDocument}
use Rattle.tpl_commands.specs.Responding.{Responds}
use Rattle.tpl_commands.proofs.Responses.{said, unreadable≢, IsYesOrNo}
use Rattle.tpl_reader.specs.Document.{DocumentValue, Spells}
use Rattle.tpl_shown.specs.Answer.{AuditShown, IsAuditPage, IsUnread, ShowsAudit}

unread_exit : (names : Names) (audit : Audit) (exit : Exit) (text : List ℕ) → IsUnread audit → IsAuditAnswer names audit exit text → exit ≡ Unreadable
unread_exit names NoStart exit text is answer = answer.0
unread_exit names (NoJournal fault) exit text is answer = answer.0
unread_exit names (Judged verdict) exit text is answer = absurd is

-- the answer to a document of whose journal nothing can be shown
pub unshown_answer : (input : List ℕ) (doc : DocumentValue) (audit : Audit) (exit : Exit) (text : List ℕ) → Spells input doc → IsAuditOf doc audit → IsUnread audit → IsAuditAnswer doc.graph.names audit exit text → ShowsAudit input exit text
unshown_answer input doc audit exit text spelled is unread answer =
    inr (inl (doc, spelled, (audit, is, answer)), unread_exit doc.graph.names audit exit text unread answer)

-- the answer to bytes that spell no document
pub unread_answer : (input : List ℕ) (r : Result Answered AllocError) → IfOk r (λ it. NoDocument input it.answer.exit (string_bytes it.answer.text)) → IfOk r (λ it. ShowsAudit input it.answer.exit (string_bytes it.answer.text))
unread_answer input (Ok it) none = inr (inr none, none.2)
unread_answer input (Err e) none = tt

-- a yes or no answers a document
of_document : (input : List ℕ) (exit : Exit) (text : List ℕ) → IsYesOrNo exit → ShowsAudit input exit text → (doc : DocumentValue) × Spells input doc × IsAuditPage input doc exit text
of_document input exit text done (inl is) = is
of_document input exit text done (inr is) = absurd (unreadable≢ exit done is.1)

pub audit_shown : {R W : Type 0} (remaining : R → Option (List ℕ)) (from_old from_new : Counting R) (contents : W → Option (List ℕ)) (old new : Counting W) (result : Exit) → Responds ShowsAudit remaining from_old from_new contents old new result → IsYesOrNo result → AuditShown remaining from_old from_new contents old new result
audit_shown remaining from_old from_new contents old new result responds done =
    let s = said remaining from_old from_new contents old new result ShowsAudit done responds in
    let d = of_document s.input result s.text done s.is in
    record { input = s.input; reads = s.reads; doc = d.0; spelled = d.1; text = s.text; is = d.2; writes = s.writes }
