-- What the answer to an audit names.
use Rattle.std.proofs.Common.{◌≡◌, ℕ, ◌<◌, Bool, true, false, List, ◌++◌, Some, None, get_or, sym, ap, subst, arith}
use Rattle.tpl_draft.specs.Named.{Names}
use Rattle.tpl_audit.specs.declared.verdict.Failure.{Failure}
use Rattle.tpl_audit.specs.declared.verdict.OtherEnd.{OtherEnd}
use Rattle.tpl_audit.specs.declared.verdict.Verdict.{Verdict}
use Rattle.tpl_audit.specs.declared.verdict.Verdict.TheVariants as ruled
use Rattle.tpl_audit.specs.Audit.{FindsNoFailure}
use Rattle.tpl_reader.specs.Document.{DocumentValue}
use Rattle.tpl_commands.specs.Rules.{HasProof}
use Rattle.tpl_commands.specs.declared.exit.Exit.{Exit}
use Rattle.tpl_commands.specs.declared.auditing.Audit.{Audit}
use Rattle.tpl_commands.specs.declared.auditing.Audit.TheVariants.{NoStart, NoJournal, Judged}
use Rattle.tpl_commands.specs.Auditing.{IsAuditAnswer, IsAuditOf, NamesNoFailure, run_text, verdict_text}
use Rattle.tpl_commands.proofs.Responses.{unreadable≢, IsYesOrNo}

-- a text of a run in which no claim fails is none that names one

apart : (a b : ℕ) → a < b → a ≡ b → ⊥
apart a b lt e = absurd (omega (arith, lt, e))

-- the bytes at which the lines differ
byte_at : ℕ → List ℕ → ℕ
byte_at k text = get_or text k 0

ended_names_none : (a b : Bool) (failure : Failure) (more : List ℕ) → run_text a None ≡ run_text b (Some failure) ++ more → ⊥
unfolding byte_at
ended_names_none true true failure more e = apart 0 99 (omega arith) (ap (byte_at 13) e)
ended_names_none true false failure more e = apart 99 110 (omega arith) (ap (byte_at 4) e)
ended_names_none false true failure more e = apart 99 110 (omega arith) (sym (ap (byte_at 4) e))
ended_names_none false false failure more e = apart 0 99 (omega arith) (ap (byte_at 17) e)

other_names_none : (names : Names) (a b : Bool) (other : OtherEnd) (failure : Failure) (more : List ℕ) → verdict_text names (ruled.Run a None (Some other)) ≡ run_text b (Some failure) ++ more → ⊥
unfolding byte_at
other_names_none names true true other failure more e = apart 99 116 (omega arith) (sym (ap (byte_at 13) e))
other_names_none names true false other failure more e = apart 99 110 (omega arith) (ap (byte_at 4) e)
other_names_none names false true other failure more e = apart 99 110 (omega arith) (sym (ap (byte_at 4) e))
other_names_none names false false other failure more e = apart 99 116 (omega arith) (sym (ap (byte_at 17) e))

not_allowed_names_none : (names : Names) (place : ℕ) (b : Bool) (failure : Failure) (more : List ℕ) → verdict_text names (ruled.NotAllowed place) ≡ run_text b (Some failure) ++ more → ⊥
unfolding byte_at
not_allowed_names_none names place true failure more e = apart 110 114 (omega arith) (ap (byte_at 0) e)
not_allowed_names_none names place false failure more e = apart 110 114 (omega arith) (ap (byte_at 0) e)

memory_names_none : (names : Names) (b : Bool) (failure : Failure) (more : List ℕ) → verdict_text names ruled.Memory ≡ run_text b (Some failure) ++ more → ⊥
unfolding byte_at
memory_names_none names true failure more e = apart 111 114 (omega arith) (ap (byte_at 0) e)
memory_names_none names false failure more e = apart 111 114 (omega arith) (ap (byte_at 0) e)

verdict_names_none : (names : Names) (verdict : Verdict) → FindsNoFailure verdict → NamesNoFailure (verdict_text names verdict)
verdict_names_none names (ruled.Run complete None None) none b failure more e = ended_names_none complete b failure more e
verdict_names_none names (ruled.Run complete None (Some other)) none b failure more e = other_names_none names complete b other failure more e
verdict_names_none names (ruled.Run complete (Some found) other) none b failure more e = absurd cc
verdict_names_none names (ruled.NotAllowed place) none b failure more e = not_allowed_names_none names place b failure more e
verdict_names_none names ruled.Memory none b failure more e = memory_names_none names b failure more e

pub audit_names_none : (doc : DocumentValue) (audit : Audit) (exit : Exit) (text : List ℕ) → IsYesOrNo exit → IsAuditOf doc audit → IsAuditAnswer doc.graph.names audit exit text
    → HasProof doc → NamesNoFailure text
audit_names_none doc NoStart exit text answers is said accepted = absurd (unreadable≢ exit answers said.0)
audit_names_none doc (Judged verdict) exit text answers is said accepted =
    subst NamesNoFailure (sym said.1) (verdict_names_none doc.graph.names verdict (is.sound accepted))
audit_names_none doc (NoJournal fault) exit text answers is said accepted = absurd (unreadable≢ exit answers said.0)
