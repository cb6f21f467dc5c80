-- What `check` answers to a document.
use Rattle.std.specs.Prelude.{◌≡◌, ℕ, Bool, List, Some, Result, Ok, Err, codes, slice_get}
use Rattle.tpl_model.specs.declared.event.Event.{Event}
use Rattle.tpl_model.specs.declared.fault.CertFault.{CertFault}
use Rattle.tpl_model.specs.declared.fault.CertFault.TheVariants.{Shape, NotClosed, ClaimNot}
use Rattle.tpl_model.specs.Graph.{TaskGraph, is_task}
use Rattle.tpl_model.specs.Rules.{Run}
use Rattle.tpl_model.specs.Claims.{Claim, Holds}
use Rattle.tpl_laws.specs.ByRules.{FailsFirst}
use Rattle.tpl_laws.specs.Soundness.{Each}
use Rattle.tpl_reader.specs.Document.{DocumentValue}
use Rattle.tpl_commands.specs.Rules.{rules_of, HasProof}
use Rattle.tpl_commands.specs.declared.exit.Exit.{Exit}
use Rattle.tpl_commands.specs.declared.exit.Exit.TheVariants.{Success, Failure}
use Rattle.tpl_commands.specs.Texts.{refused_shape, refused_leaf, refused_claim}
use Rattle.tpl_commands.specs.Responding.{Answers}
use Rattle.tpl_commands.specs.Documents.{ToDocument}

-- each of the claims holds in each run of the graph, for all inputs and whatever comes from outside
abbrev pub AllHold : TaskGraph → List Claim → Type 0
AllHold g claims = (inputs : List Bool) (events : List Event) → Run g inputs events → Each (λ claim. Holds g claim inputs events) claims

-- and so it is with those of the document
abbrev pub ClaimsHold : DocumentValue → Type 0
ClaimsHold doc = AllHold doc.graph.graph doc.claims

-- The certificate is accepted, and so the claims hold.
pub record IsAccepted (doc : DocumentValue) : Type 0 where
  pub accepted : HasProof doc
  pub hold : ClaimsHold doc

-- This is the first fault of the certificate, which isn't accepted.
pub record IsRefused (doc : DocumentValue) (fault : CertFault) : Type 0 where
  pub first : FailsFirst (rules_of doc) doc.graph.graph doc.claims doc.certificate fault
  pub not_accepted : HasProof doc → ⊥

-- the task that is named is the graph's
abbrev pub NamesTask : TaskGraph → CertFault → Type 0
NamesTask g (Shape claim) = Unit {0}
NamesTask g (NotClosed claim leaf task rule) = is_task g task.0
NamesTask g (ClaimNot claim leaf) = Unit {0}

-- what the check says of the document's certificate
abbrev pub IsCheckOf : DocumentValue → Result (Unit {0}) CertFault → Type 0
IsCheckOf doc (Ok x) = IsAccepted doc
IsCheckOf doc (Err fault) = IsRefused doc fault × NamesTask doc.graph.graph fault

-- the line for a fault, with the names of the tasks
abbrev pub IsRefusal : List (List ℕ) → CertFault → List ℕ → Type 0
IsRefusal names (Shape claim) text = text ≡ refused_shape claim
IsRefusal names (NotClosed claim leaf task rule) text =
    (name : List ℕ) × (slice_get names task.0 ≡ Some name) × (text ≡ refused_leaf claim leaf name rule)
IsRefusal names (ClaimNot claim leaf) text = text ≡ refused_claim claim leaf

-- `accepted`, or the line for a fault
abbrev pub IsVerdictText : List (List ℕ) → Result (Unit {0}) CertFault → List ℕ → Type 0
IsVerdictText names (Ok x) text = text ≡ codes "accepted\n"
IsVerdictText names (Err fault) text = IsRefusal names fault text

-- `accepted` where the certificate is accepted, else its first fault
abbrev pub IsVerdict : DocumentValue → Exit → List ℕ → Type 0
IsVerdict doc Success text = IsAccepted doc × (text ≡ codes "accepted\n")
IsVerdict doc Failure text =
    (fault : CertFault) × IsRefused doc fault × IsRefusal doc.graph.names.tasks fault text
IsVerdict doc exit text = ⊥

-- the answer of `check` to bytes
abbrev pub Checks : Answers
Checks = ToDocument IsVerdict
