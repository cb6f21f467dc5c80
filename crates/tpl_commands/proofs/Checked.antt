-- What the check says of a document's certificate.
use Rattle.std.proofs.Common.{◌≡◌, false, List, Result, Ok, Err, IfOk, IfErr, refl}
use Rattle.std.specs.Prelude.{◌↔◌, IsOk}
use Rattle.tpl_model.specs.Graph.{TaskGraph}
use Rattle.tpl_model.specs.declared.fault.CertFault.{CertFault}
use Rattle.tpl_model.specs.declared.fault.CertFault.TheVariants.{Shape, NotClosed, ClaimNot}
use Rattle.tpl_model.specs.Certificate.{Tree, Accepts}
use Rattle.tpl_model.specs.Claims.{Claim}
use Rattle.tpl_laws.specs.TokenTrees.{AcceptsWithTokens}
use Rattle.tpl_model.specs.declared.rule_set.RuleSet.TheVariants.{WithoutTokens, WithTokens}
use Rattle.tpl_laws.specs.Faults.{IsFirstFault}
use Rattle.tpl_laws.specs.TokenFaults.{IsFirstTokenFault}
use Rattle.tpl_laws.proofs.PlainFaults.{names_task}
use Rattle.tpl_laws.proofs.TokenFaults.{token_names_task}
use Rattle.tpl_reader.specs.Document.{DocumentValue}
use Rattle.tpl_commands.specs.Rules.{rules_of}
use Rattle.tpl_commands.specs.Checking.{ClaimsHold, IsAccepted, IsRefused, IsCheckOf, NamesTask}

-- the task that the first fault names is the graph's
names_plain : (g : TaskGraph) (claims : List Claim) (trees : List Tree) (fault : CertFault) → IsFirstFault g claims trees fault → NamesTask g fault
names_plain g claims trees (Shape claim) first = tt
names_plain g claims trees (NotClosed claim leaf t rule) first = names_task g claims trees claim leaf t rule first
names_plain g claims trees (ClaimNot claim leaf) first = tt

names_token : (g : TaskGraph) (claims : List Claim) (trees : List Tree) (fault : CertFault) → IsFirstTokenFault g claims trees fault → NamesTask g fault
names_token g claims trees (Shape claim) first = tt
names_token g claims trees (NotClosed claim leaf t rule) first = token_names_task g claims trees claim leaf t rule first
names_token g claims trees (ClaimNot claim leaf) first = tt

-- what the check says of a document by the rules without tokens
pub is_check_without_tokens : (doc : DocumentValue) (r : Result (Unit {0}) CertFault) → rules_of doc ≡ WithoutTokens → (IsOk r ↔ Accepts doc.graph.graph doc.claims doc.certificate) → IfOk r (λ x. ClaimsHold doc)
    → IfErr r (IsFirstFault doc.graph.graph doc.claims doc.certificate) → IsCheckOf doc r
is_check_without_tokens doc (Ok x) rules accepts hold first = record { accepted = rw rules (accepts.0 refl); hold = hold }
is_check_without_tokens doc (Err fault) rules accepts hold first = (
  record {
    first = rw rules first;
    not_accepted = rw rules (λ accepted. let ok = accepts.1 accepted in cc);
  },
  names_plain doc.graph.graph doc.claims doc.certificate fault first,
)

-- ---- by the rules with tokens

pub accepted_with_tokens : (doc : DocumentValue) → rules_of doc ≡ WithTokens → AcceptsWithTokens doc.graph.graph doc.claims doc.certificate → ClaimsHold doc → IsAccepted doc
accepted_with_tokens doc rules accepted hold = record { accepted = rw rules accepted; hold = hold }

pub refused_with_tokens : (doc : DocumentValue) (fault : CertFault) → rules_of doc ≡ WithTokens → IsFirstTokenFault doc.graph.graph doc.claims doc.certificate fault
    → (AcceptsWithTokens doc.graph.graph doc.claims doc.certificate → ⊥) → IsRefused doc fault × NamesTask doc.graph.graph fault
refused_with_tokens doc fault rules first not_accepted =
    (record { first = rw rules first; not_accepted = rw rules not_accepted }, names_token doc.graph.graph doc.claims doc.certificate fault first)
