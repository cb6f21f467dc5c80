-- From the verdict on a document to what was read and written.
use Rattle.std.proofs.Common.{◌≡◌, ◌+◌, ◌≤◌, ℕ, List, Option, codes, inl, subst}
use Rattle.tpl_journal.specs.Counting.{calls_of}
use Rattle.tpl_journal.specs.Writing.{Writes}
use Rattle.tpl_journal.specs.declared.counting.Counting.{Counting}
use Rattle.tpl_reader.proofs.Claimed.{claims_spelled}
use Rattle.tpl_commands.specs.declared.exit.Exit.{Exit}
use Rattle.tpl_commands.specs.declared.ask.Ask.{Ask}
use Rattle.tpl_commands.specs.declared.ask.Ask.TheVariants.{Check, Analyse, AnalyseIn, Certify, Audit}
use Rattle.tpl_commands.specs.declared.exit.Exit.TheVariants.{Success}
use Rattle.tpl_analyser.specs.declared.form.Form.{Form}
use Rattle.tpl_analyser.specs.declared.form.Form.TheVariants.{Full}
use Rattle.tpl_commands.specs.Auditing.{IsAudit, NamesNoFailure}
use Rattle.tpl_commands.specs.Certifying.{IsCertified, IsCertifying}
use Rattle.tpl_commands.specs.Checking.{ClaimsHold, IsVerdict}
use Rattle.tpl_commands.specs.Rules.{HasProof}
use Rattle.tpl_commands.specs.Searching.{IsCertificate, IsSearching}
use Rattle.tpl_commands.specs.Responding.{Responds}
use Rattle.tpl_reader.specs.Document.{longest}
use Rattle.tpl_commands.specs.Serving.{answers_of, Proved, Accepted, Found, Certified, Audited, Serves}
use Rattle.tpl_commands.proofs.AuditLemmas.{audit_names_none}
use Rattle.tpl_commands.proofs.Responses.{tells, IsYesOrNo}

-- what is known from an exit where this is asked
module _ {R W : Type 0} (ask : Ask) (remaining : R → Option (List ℕ)) (from_old from_new : Counting R) (contents : W → Option (List ℕ)) (old new : Counting W) (result : Exit) (responds : Responds (answers_of ask) remaining from_old from_new contents old new result) where
  where_asked : (other : Ask) → ask ≡ other → Responds (answers_of other) remaining from_old from_new contents old new result
  where_asked other is = subst (λ (a : Ask). Responds (answers_of a) remaining from_old from_new contents old new result) is responds

  accepts : ask ≡ Check → result ≡ Success → Accepted remaining from_old from_new contents old new
  accepts is e = tells remaining from_old from_new contents old new result IsVerdict (λ doc text. HasProof doc × ClaimsHold doc × (text ≡ codes "accepted\n")) (inl e)
      (λ doc text verdict. let v : IsVerdict doc Success text = subst (λ (x : Exit). IsVerdict doc x text) e verdict in (v.0.accepted, v.0.hold, v.1))
      (where_asked Check is)

  proves : ask ≡ Check → result ≡ Success → Proved remaining from_old from_new contents old new
  proves is e =
      let found = accepts is e in
      record {
        input = found.input;
        reads = found.reads;
        graph = found.doc.graph;
        claims = found.doc.claims;
        spelled = claims_spelled found.input found.doc found.spelled;
        hold = found.is.1;
        writes = subst (Writes contents old new) found.is.2 found.writes;
      }

  finds : (depth : ℕ) (form : Form) → Responds (answers_of (AnalyseIn depth form)) remaining from_old from_new contents old new result → result ≡ Success → Found remaining from_old from_new contents old new depth form
  finds depth form given e = tells remaining from_old from_new contents old new result (IsSearching depth form) (IsCertificate depth form) (inl e)
      (λ doc text found. subst (λ (x : Exit). IsSearching depth form doc x text) e found) given

  certifies : (depth : ℕ) (form : Form) → ask ≡ Certify depth form → result ≡ Success → Certified remaining from_old from_new contents old new depth form
  certifies depth form is e = tells remaining from_old from_new contents old new result (IsCertifying depth form) (IsCertified depth form) (inl e)
      (λ doc text found. subst (λ (x : Exit). IsCertifying depth form doc x text) e found) (where_asked (Certify depth form) is)

  audits : ask ≡ Audit → IsYesOrNo result → Audited remaining from_old from_new contents old new result
  audits is exit = tells remaining from_old from_new contents old new result IsAudit
      (λ doc text. IsAudit doc result text × (HasProof doc → NamesNoFailure text)) exit
      (λ doc text audit. (audit, audit_names_none doc audit.0 result text exit audit.1 audit.2)) (where_asked Audit is)

  pub serves : calls_of from_new ≤ calls_of from_old + (longest + 2) → Serves ask remaining from_old from_new contents old new result
  serves reads = record {
    responds = responds;
    reads = reads;
    proved = proves;
    accepted = accepts;
    found = λ depth is e. finds depth Full (where_asked (Analyse depth) is) e;
    found_in = λ depth form is e. finds depth form (where_asked (AnalyseIn depth form) is) e;
    certified = certifies;
    audited = audits;
  }
