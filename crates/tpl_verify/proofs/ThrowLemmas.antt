-- Bodies that throw in no run.
use Rattle.std.proofs.Common.{◌≡◌, ℕ, inl, inr, not, IsTrue, Bool, true, false, Option, Some, None, List, sym, ap, ◌∙◌, refl}
use Rattle.tpl_model.specs.declared.ids.TaskId.{TaskId}
use Rattle.tpl_model.specs.declared.finals.Final.{Final}
use Rattle.tpl_model.specs.declared.finals.Final.TheVariants.{RanToCompletion, Canceled, Faulted}
use Rattle.tpl_model.specs.declared.finals.Finals.{Finals}
use Rattle.tpl_model.specs.Finals.{has}
use Rattle.tpl_model.specs.declared.status.Label.{Label}
use Rattle.tpl_model.proofs.Truths.{true_false}
use Rattle.std.proofs.lemmas.Bool.{cases_Bool}
use Rattle.tpl_model.specs.declared.outcome.Outcome.TheVariants.{Threw}
use Rattle.tpl_model.specs.declared.event.Event.{Event}
use Rattle.tpl_model.specs.declared.claim.Given.{Given}
use Rattle.tpl_model.specs.declared.claim.Property.TheVariants.{Final as EndsIn}
use Rattle.tpl_model.specs.Graph.{TaskGraph, body}
use Rattle.tpl_model.specs.Facts.{ending, final_in, outcome_in, rest}
use Rattle.tpl_model.specs.Rules.{label}
use Rattle.tpl_model.specs.Valid.{IsGraph}
use Rattle.tpl_model.specs.Claims.{IsGiven}
use Rattle.tpl_model.specs.Certificate.{assumed}
use Rattle.tpl_laws.proofs.Basics.{the_some}
use Rattle.tpl_laws.proofs.Execution.{passed}
use Rattle.tpl_laws.proofs.Follows.{Fits, follows}
use Rattle.tpl_laws.proofs.Settling.{has_subject_of}
use Rattle.tpl_laws.proofs.RowsAreTrue.{verdict_path}
use Rattle.tpl_laws.proofs.Carrying.{carries_faulted}
use Rattle.tpl_laws.proofs.Chains.{carries_own, threw_begun, begun_ends}
use Rattle.tpl_laws.proofs.Observing.{label_verdict}
use Rattle.tpl_laws.proofs.MainTheorem.{given_agrees}
use Rattle.tpl_verify.specs.Verdicts.{HoldsAlways, HasNoLabel, ThrowsNowhere, each_end, known_under, under}

-- each way to end is one of these
each_end_in : (f : Final) → has each_end f ≡ true
each_end_in RanToCompletion = refl
each_end_in Canceled = refl
each_end_in Faulted = refl

pub not_both : (b : Bool) → IsTrue (not b) → IsTrue b → ⊥
not_both true n b = cc
not_both false n b = cc

pub not_true : (b : Bool) → (IsTrue b → ⊥) → IsTrue (not b)
not_true true never = absurd (never refl)
not_true false never = refl

no_label : (o : Option Label) → ((lb : Label) → o ≡ Some lb → ⊥) → o ≡ None
no_label None none = refl
no_label (Some lb) none = absurd (none lb refl)

-- what is known is true of each run in which this is given
known_fits : (g : TaskGraph) (given : List Given) (t : ℕ) (v : List Bool) (h : List Event) → IsGiven g v h given → Fits g v h t (known_under g given t)
known_fits g given t v h is =
    let agrees = given_agrees g v h given is in
    record {
      own = refl;
      inputs = λ i. agrees.inputs i;
      quiet = λ k r. elim (cases_Bool ((assumed g given).quiet k)) [ inl q ↦ true_false (sym r ∙ agrees.quiet k q) | inr q ↦ q ];
      subject = λ s f e q. each_end_in f;
      jobs = λ site e. elim (cases_Bool ((assumed g given).sure site)) [ inl q ↦ true_false (sym e ∙ agrees.jobs site q) | inr q ↦ q ];
    }

-- no path of the body throws
pub throws_nowhere : (g : TaskGraph) (given : List Given) (t : ℕ) → IsGraph g → ThrowsNowhere g given t → HasNoLabel g given t
throws_nowhere g given t valid none v h run complete is =
    no_label (label g v h t) (λ lb e.
    let w = known_under g given t in
    let threw = label_verdict (outcome_in (rest g v h t)) lb e in
    none (lb, (passed g v h t, verdict_path w (body g t) (rest g v h t).outcome (rest g v h t).left (passed g v h t) (Threw lb) threw (follows g v h t w run (known_fits g given t v h is) (has_subject_of g t valid)))))

-- the task never ends faulted
pub never_faults : (g : TaskGraph) (given : List Given) (t : TaskId) (ends : Finals) → has ends Faulted ≡ false → HoldsAlways g (under given (EndsIn t ends)) → HasNoLabel g given t.0
never_faults g given t ends unfaulted always v h run complete is =
    no_label (label g v h t.0) (λ lb e.
    let threw = label_verdict (outcome_in (rest g v h t.0)) lb e in
    let q = the_some (ending g v h t.0) (begun_ends g v h t.0 run complete (threw_begun g v h t.0 lb run threw)) in
    let f = carries_faulted g v h t.0 t.0 q.0 run q.1 (carries_own g v h t.0 lb q.0 run threw q.1) in
    true_false (sym (always v h run is Faulted (ap final_in q.1 ∙ ap Some f)) ∙ unfaulted))
