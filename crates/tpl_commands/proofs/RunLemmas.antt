-- Journals that are no run, and what is shown of those that are one.
use Rattle.std.proofs.Common.{◌≡◌, ◌∙◌, ℕ, List, [], ◌∷◌, length, Bool, true, false, Option, Some, nat_eq, reverse, refl, sym, subst, arith}
use Rattle.std.proofs.lemmas.Bool.{eqb-true, eq-eqb}
use Rattle.tpl_model.specs.declared.finals.Final.{Final}
use Rattle.tpl_model.specs.declared.ids.TaskId.{TaskId}
use Rattle.tpl_audit.specs.declared.verdict.Failure.{Failure}
use Rattle.tpl_audit.specs.declared.verdict.OtherEnd.{OtherEnd}
use Rattle.tpl_audit.specs.Audit.{IsAudited, IsFirstRefused}
use Rattle.tpl_audit.proofs.RefusedLemmas.{refused_never}
use Rattle.tpl_graph.specs.Kept.{IsNamedGraph}
use Rattle.tpl_journal.specs.Lines.{IsJournal, TextIsUnambiguous}
use Rattle.tpl_laws.specs.Runs.{PrefixIsRun}
use Rattle.tpl_model.specs.declared.event.Event.{Event}
use Rattle.tpl_model.specs.Claims.{Claim}
use Rattle.tpl_model.specs.Graph.{TaskGraph}
use Rattle.tpl_model.specs.Rules.{Run}
use Rattle.tpl_reader.specs.Document.{DocumentValue}
use Rattle.tpl_reader.specs.Starting.{inputs_of}
use Rattle.tpl_commands.specs.Auditing.{HasRun}

the_same : (a b : List Bool) → Some a ≡ Some b → a ≡ b
the_same a b e = cc

-- whatever run the journal has, it is that of these events
pub one_run : TextIsUnambiguous → (doc : DocumentValue) (events : List Event) → IsNamedGraph doc.graph → IsJournal doc.graph doc.journal events → (h : List Event) → HasRun doc h → h ≡ events
one_run one doc events named journal h is =
    one doc.graph h events named is.journal.spelled journal.spelled (sym is.journal.reads ∙ journal.reads)

-- the journal of a document whose events aren't all allowed is no run
pub no_run : TextIsUnambiguous → PrefixIsRun → (doc : DocumentValue) (inputs : List Bool) (events : List Event) (place : ℕ) → IsNamedGraph doc.graph → inputs_of doc ≡ Some inputs → IsJournal doc.graph doc.journal events
    → IsFirstRefused doc.graph.graph inputs events place → (h : List Event) → HasRun doc h → ⊥
no_run one prefix doc inputs events place named known journal refused h is =
    let same : h ≡ events = one_run one doc events named journal h is in
    let values : is.inputs ≡ inputs = the_same is.inputs inputs (sym is.known ∙ known) in
    let run = subst (λ (v : List Bool). Run doc.graph.graph v (reverse events)) values (subst (λ (l : List Event). Run doc.graph.graph is.inputs (reverse l)) same is.run) in
    refused_never doc.graph.graph inputs events place prefix refused run

-- an audit of a copy of the inputs and of the claims is one of these
pub audited_with : (g : TaskGraph) (v w : List Bool) (events : List Event) (a b : List Claim) (ended : List (TaskId × Final)) (complete : Bool) (fails : Option Failure) (other : Option OtherEnd) → v ≡ w → a ≡ b
    → IsAudited g v events a ended complete fails other → IsAudited g w events b ended complete fails other
audited_with g v w events a b ended complete fails other values claims is =
    subst (λ (x : List Bool). IsAudited g x events b ended complete fails other) values (subst (λ (c : List Claim). IsAudited g v events c ended complete fails other) claims is)

-- whether there is an event
pub no_event : (events : List Event) (b : Bool) → b ≡ nat_eq (length events) 0 → b ≡ true → events ≡ []
no_event [] b e t = refl
no_event (x ∷ xs) b e t =
    let none : length (x ∷ xs) ≡ 0 = eqb-true (length (x ∷ xs)) 0 (sym e ∙ t) in
    absurd (omega (arith, none))

pub an_event : (events : List Event) (b : Bool) → b ≡ nat_eq (length events) 0 → b ≡ false → events ≡ [] → ⊥
an_event events b e f same =
    let none : nat_eq (length events) 0 ≡ true = subst (λ (l : List Event). nat_eq (length l) 0 ≡ true) (sym same) (eq-eqb 0 0 refl) in
    let t : b ≡ true = e ∙ none in
    absurd cc
