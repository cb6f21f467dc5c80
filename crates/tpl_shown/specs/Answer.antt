-- What `audit` answers as a page.
use Rattle.std.specs.Prelude.{◌≡◌, ◌⊎◌, ℕ, List, Option, codes}
use Rattle.tpl_audit.specs.declared.verdict.Verdict.{Verdict}
use Rattle.tpl_commands.specs.Auditing.{Audits, IsAudited, verdict_exit, verdict_text}
use Rattle.tpl_commands.specs.Responding.{Answers, Reads}
use Rattle.tpl_commands.specs.declared.auditing.Audit.{Audit}
use Rattle.tpl_commands.specs.declared.auditing.Audit.TheVariants.{NoStart, NoJournal, Judged}
use Rattle.tpl_commands.specs.declared.exit.Exit.{Exit}
use Rattle.tpl_commands.specs.declared.exit.Exit.TheVariants.{Unreadable}
use Rattle.tpl_journal.specs.Writing.{Writes}
use Rattle.tpl_journal.specs.declared.counting.Counting.{Counting}
use Rattle.tpl_reader.specs.Bytes.{behind_mark}
use Rattle.tpl_reader.specs.Document.{DocumentValue, Spells}
use Rattle.tpl_shown.specs.Found.{IsFoundText}
use Rattle.tpl_shown.specs.Shown.{IsDocumentPage}

-- The journal is judged, and the text is the page of the document with what the audit says: the lines that `audit` writes, and
-- for the scripts what was found. The exit is that of `audit`.
pub record IsAuditPage (input : List ℕ) (doc : DocumentValue) (exit : Exit) (text : List ℕ) : Type 0 where
  pub verdict : Verdict
  pub audited : IsAudited doc verdict
  pub ends : exit ≡ verdict_exit verdict
  pub found : List ℕ
  pub says : IsFoundText doc.graph doc.claims audited.inputs audited.events verdict found
  pub page : IsDocumentPage (verdict_text doc.graph.names verdict) (behind_mark input) (codes "audit") found text

-- the audit judges nothing, since the document's journal can't be read
abbrev pub IsUnread : Audit → Type 0
IsUnread NoStart = Unit {0}
IsUnread (NoJournal fault) = Unit {0}
IsUnread (Judged verdict) = ⊥

-- the page of a document; or where that or its journal can't be read, what `audit` answers
abbrev pub ShowsAudit : Answers
ShowsAudit input exit text =
    ((doc : DocumentValue) × Spells input doc × IsAuditPage input doc exit text)
    ⊎ (Audits input exit text × (exit ≡ Unreadable))

-- What was read spells a document, and its page was written.
pub record AuditShown {R W : Type 0} (remaining : R → Option (List ℕ)) (from_old from_new : Counting R) (contents : W → Option (List ℕ)) (to_old to_new : Counting W) (exit : Exit) : Type 0 where
  pub input : List ℕ
  pub reads : Reads remaining from_old from_new input
  pub doc : DocumentValue
  pub spelled : Spells input doc
  pub text : List ℕ
  pub is : IsAuditPage input doc exit text
  pub writes : Writes contents to_old to_new text
