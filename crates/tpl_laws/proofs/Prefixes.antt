-- What stays in a run.
use Rattle.std.proofs.Common.{◌≡◌, ℕ, ◌++◌, inl, inr, Bool, Some, None, List, [], ◌∷◌, refl, sym, ◌∙◌, subst, nat_eq}
use Rattle.std.proofs.lemmas.Bool.{cases_Bool}
use Rattle.tpl_model.specs.declared.status.Status.TheVariants.{WaitingToRun}
use Rattle.tpl_model.specs.Graph.{TaskGraph}
use Rattle.tpl_model.specs.declared.status.Actor.{Actor}
use Rattle.tpl_model.specs.declared.event.Act.{Act}
use Rattle.tpl_model.specs.declared.event.Act.TheVariants.{Begin}
use Rattle.tpl_model.specs.declared.event.Event.{Event}
use Rattle.tpl_model.specs.Facts.{begun}
use Rattle.tpl_model.specs.Rules.{Allows}
use Rattle.tpl_laws.proofs.Basics.{if_false, some_none, same_number}
use Rattle.tpl_laws.proofs.Kept.{after, waiting_facts, ending_kept, requested_kept, started_kept}
use Rattle.tpl_laws.specs.Runs.{PrefixIsRun, NothingGoesBack}

pub prefix_is_run_lem : PrefixIsRun
prefix_is_run_lem g v [] h run = run
prefix_is_run_lem g v (e ∷ later) h run = prefix_is_run_lem g v later h run.0

-- the worker that began a task stays
begun_stays : (g : TaskGraph) (v : List Bool) (h : List Event) (a b : Actor) (x : Act) (t : ℕ) → Allows g v h a x → begun h t ≡ Some b → begun (after a x h) t ≡ Some b
begun_stays g v h a b (Begin s) t al e =
    elim (cases_Bool (nat_eq s.0 t)) [
      | inl q ↦ some_none b (sym e ∙ subst (λ z. begun h z ≡ None) (same_number s.0 t q) (waiting_facts g v h s.0 WaitingToRun al.1 (inl refl)).2)
      | inr q ↦ if_false (nat_eq s.0 t) (Some a) (begun h t) q ∙ e
    ]
begun_stays g v h a b x t al e = e

pub nothing_goes_back_lem : NothingGoesBack
nothing_goes_back_lem g v [] h run = record { still_requested = λ k e. e; still_started = λ t e. e; still_begun = λ t a e. e; still_ended = λ t r e. e }
nothing_goes_back_lem g v (x ∷ later) h run =
    let old = nothing_goes_back_lem g v later h run.0 in
    record {
      still_requested = λ k e. requested_kept g v (later ++ h) x.actor x.act k (old.still_requested k e);
      still_started = λ t e. started_kept g v (later ++ h) x.actor x.act t (old.still_started t e);
      still_begun = λ t a e. begun_stays g v (later ++ h) x.actor a x.act t run.1 (old.still_begun t a e);
      still_ended = λ t r e. ending_kept g v (later ++ h) x.actor x.act t r run.1 (old.still_ended t r e);
    }
