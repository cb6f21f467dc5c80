-- The reason of an answer, by what the answer follows from.
use Rattle.std.specs.Prelude.{true, false, List, [], ◌∷◌, Option, Some, None, Result, Ok, Err}
use Rattle.tpl_model.specs.Claims.{Claim}
use Rattle.tpl_model.specs.declared.fault.CertFault.{CertFault}
use Rattle.tpl_audit.specs.declared.verdict.Verdict.{Verdict}
use Rattle.tpl_audit.specs.declared.verdict.Verdict.TheVariants as ruled
use Rattle.tpl_commands.specs.declared.auditing.Audit.{Audit}
use Rattle.tpl_commands.specs.declared.auditing.Audit.TheVariants as audit
use Rattle.tpl_commands.specs.declared.finding.Finding.{Finding}
use Rattle.tpl_commands.specs.declared.finding.Finding.TheVariants.{Unread, Read}
use Rattle.tpl_commands.specs.declared.finding.Found.{Found}
use Rattle.tpl_commands.specs.declared.finding.Found.TheVariants.{Checked, Drawn, Searched, Certified, Audited}
use Rattle.tpl_commands.specs.declared.searching.Outcome.{Outcome}
use Rattle.tpl_commands.specs.declared.searching.Outcome.TheVariants.{Certificate, Missed}
use Rattle.tpl_reasons.specs.declared.reason.Reason.{Reason}
use Rattle.tpl_reasons.specs.declared.reason.Reason.TheVariants.{Unreadable, Unchecked, NotFound, NoStart, NoJournal, NotAllowed, Fails, EndsOtherwise, NotComplete, NothingAsked}

-- where there is no claim, a yes says nothing
abbrev pub yes_reason : List Claim → Option Reason
yes_reason [] = Some NothingAsked
yes_reason (claim ∷ claims) = None

-- why a certificate is refused: its first fault
abbrev pub check_reason : List Claim → Result (Unit {0}) CertFault → Option Reason
check_reason claims (Ok x) = yes_reason claims
check_reason claims (Err fault) = Some (Unchecked fault)

-- why no certificate is found: the claim that the answer names has none
abbrev pub search_reason : List Claim → Outcome → Option Reason
search_reason claims (Certificate trees) = yes_reason claims
search_reason claims (Missed claim ran_out) = Some (NotFound claim)

-- why events aren't a complete run in which each claim holds and each task ended as the document says
abbrev pub verdict_reason : Verdict → Option Reason
verdict_reason (ruled.NotAllowed place) = Some (NotAllowed place)
verdict_reason (ruled.Run complete (Some failure) other_end) = Some (Fails failure other_end)
verdict_reason (ruled.Run complete None (Some other)) = Some (EndsOtherwise other complete)
verdict_reason (ruled.Run true None None) = None
verdict_reason (ruled.Run false None None) = Some NotComplete
verdict_reason ruled.Memory = None

-- why the audit says no
abbrev pub audit_reason : Audit → Option Reason
audit_reason audit.NoStart = Some NoStart
audit_reason (audit.NoJournal fault) = Some (NoJournal fault)
audit_reason (audit.Judged verdict) = verdict_reason verdict

-- why the answer to a document with these claims is what it is; none, where the answer says all
abbrev pub found_reason : List Claim → Found → Option Reason
found_reason claims (Checked verdict) = check_reason claims verdict
found_reason claims (Drawn language verdict) = None
found_reason claims (Searched search) = search_reason claims search.outcome
found_reason claims (Certified search) = search_reason claims search.outcome
found_reason claims (Audited audit) = audit_reason audit

-- why the answer is what it is
abbrev pub reason_of : Finding → Option Reason
reason_of (Unread misread) = Some (Unreadable misread.fault)
reason_of (Read document found) = found_reason document.claims.items found
