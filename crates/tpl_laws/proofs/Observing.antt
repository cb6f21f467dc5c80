-- The exception of a task with a chain is observed in each complete run.
use Rattle.std.proofs.Common.{◌≡◌, ℕ, ◌⊎◌, inl, inr, Bool, true, false, Option, Some, List, [], ◌∷◌, refl, sym, ap, ◌∙◌, subst, is_some}
use Rattle.std.proofs.lemmas.Option.{same_Some}
use Rattle.tpl_model.specs.declared.finals.Final.{Final}
use Rattle.tpl_model.specs.declared.finals.Final.TheVariants.{Faulted}
use Rattle.tpl_model.specs.Finals.{is_final}
use Rattle.tpl_model.specs.Options.{allows}
use Rattle.tpl_model.specs.declared.status.Label.{Label}
use Rattle.tpl_model.specs.declared.outcome.Outcome.{Outcome}
use Rattle.tpl_model.specs.declared.outcome.Outcome.TheVariants.{Threw}
use Rattle.tpl_model.specs.Members.{mem}
use Rattle.tpl_model.specs.Statements.{Statement, Observe, Statements, ◌⨾◌}
use Rattle.tpl_model.specs.Graph.{TaskGraph, TaskKind, Continues, WhenAny, kind, body, options, is_task}
use Rattle.tpl_model.specs.declared.event.Event.{Event}
use Rattle.tpl_model.specs.Facts.{Ending, begun, final_in, rest, started, ending, subject_in, subject_of, carried_in, outcome_in, is_observe}
use Rattle.tpl_model.specs.Rules.{final, subject, Run, seen, sees, carried_by, label, label_in, Complete, to_end}
use Rattle.tpl_model.specs.Paths.{MustObserve, passes_observe}
use Rattle.tpl_laws.specs.RowTests.{faulted_view}
use Rattle.tpl_laws.proofs.Basics.{some_none, the_some}
use Rattle.tpl_laws.proofs.Kept.{running_facts, ending_kept, begun_kept, final_of}
use Rattle.tpl_model.specs.Certificate.{PlainRow, Assumed, is_loud, TakesOver, Reads}
use Rattle.tpl_laws.proofs.Execution.{passed, pushed, passes_or_stays, passes_running, stepped_or_before}
use Rattle.tpl_laws.proofs.Follows.{Fits, follows, subject_kept, has_subject}
use Rattle.tpl_laws.proofs.Settling.{has_subject_of, attached_child, parent_task, continues_task, all_task}
use Rattle.tpl_laws.proofs.Carrying.{begun_task, carries_faulted}
use Rattle.tpl_laws.proofs.RowsAreTrue.{Upheld, verdict_path, view_fits, requested_loud}
use Rattle.tpl_laws.proofs.Chains.{carries_own, threw_begun, begun_ends, any_ends, ended_as}
use Rattle.std.proofs.lemmas.Bool.{and_from, or_left, or_right}
use Rattle.tpl_model.proofs.Truths.{true_false}

-- only a task that has begun has passed anything
pub passed_begun : (g : TaskGraph) (v : List Bool) (h : List Event) (t : ℕ) → Run g v h → passes_observe (passed g v h t) ≡ true → is_some (begun h t) ≡ true
passed_begun g v [] t run e = true_false (sym e)
passed_begun g v (e ∷ h) t run o =
    begun_kept h e.actor e.act t
    (elim (passes_or_stays g v h e.actor e.act t) [
      | inl p ↦ (running_facts g v h e.actor t (passes_running g v h e.actor e.act t p run.1).0).2
      | inr same ↦ passed_begun g v h t run.0 (subst (λ z. passes_observe z ≡ true) same.1 o)
    ])

pushed_observe : (left : Statements) (ps : List Statement) → passes_observe (pushed left ps) ≡ true → (is_observe left ≡ true) ⊎ (passes_observe ps ≡ true)
pushed_observe (Observe ⨾ more) ps e = inl refl
pushed_observe left ps e = inr e

-- the subject of a continuation of a task that carries something is that task
subject_is : (g : TaskGraph) (v : List Bool) (h : List Event) (r y a : ℕ) (q : Ending) → Run g v h → kind g r ≡ Continues y → ending g v h y ≡ Some q → mem a q.carried ≡ true → subject g v h r ≡ Some y
subject_is g v h r y a q run k e m = ap (λ z. subject_in g z (ending g v h)) k ∙ by_kind (kind g y) refl
  where
    by_kind : (k2 : TaskKind) → kind g y ≡ k2 → subject_of k2 y (ending g v h y) ≡ Some y
    by_kind (WhenAny args) k2 = true_false (sym (subst (λ z. mem a z ≡ true) ((any_ends g v h y args q run k2 e).0) m))
    by_kind k k2 = refl

-- the task y has ended so, and r sees it
abbrev Sees : TaskGraph → List Bool → List Event → ℕ → ℕ → Ending → Type 0
Sees g v h r y q = (subject g v h r ≡ Some y) × (ending g v h y ≡ Some q)

-- where a continuation that sees y has passed Observe, what y carries is seen
pub observed_by : (g : TaskGraph) (v : List Bool) (h : List Event) (r n y a : ℕ) (q : Ending) → Run g v h → kind g r ≡ Continues n → Sees g v h r y q → mem a q.carried ≡ true → passes_observe (passed g v h r) ≡ true → seen g v h a ≡ true
observed_by g v [] r n y a q run k e m p = true_false (sym p)
observed_by g v (ev ∷ h) r n y a q run k e m p =
    elim (stepped_or_before is_observe passes_observe pushed_observe (λ site f more. refl) g v h ev.actor ev.act r run.1 p) [
      | inl now ↦
          let runs = (passes_running g v h ev.actor ev.act r (inl now.0) run.1).0 in
          let sees_y = saw (running_facts g v h ev.actor r runs).2 in
          or_left (sees g v h ev.act a) (seen g v h a)
          (subst (λ z. sees g v h z a ≡ true) (sym now.0)
          (and_from (is_observe (rest g v h r).left) (carried_by g v h (subject g v h r) a) now.1
          (subst (λ z. carried_by g v h z a ≡ true) (sym sees_y.0) (subst (λ z. mem a (carried_in z) ≡ true) (sym sees_y.1) m))))
      | inr old ↦ or_right (sees g v h ev.act a) (seen g v h a) (observed_by g v h r n y a q run.0 k (saw (passed_begun g v h r run.0 old)) m old)
    ]
  where
    -- once it had begun it saw y
    saw : is_some (begun h r) ≡ true → Sees g v h r y q
    saw b =
        let s = has_subject g v h r n run.0 b k in
        let same = same_Some s.0 y (sym (subject_kept g v h ev.actor ev.act r s.0 run.1 s.2) ∙ e.0) in
        let w = final_of (ending g v h y) s.1 (subst (λ z. final g v h z ≡ Some s.1) same s.3) in
        (s.2 ∙ ap Some same, w.1 ∙ ap Some (same_Some w.0 q (sym (ending_kept g v h ev.actor ev.act y w.0 run.1 w.1) ∙ e.1)))

-- what takes over is a task of the graph
pub takes_task : (g : TaskGraph) (x y : ℕ) → TakesOver g x y → is_task g x
takes_task g x y (inl m) = parent_task g x y (attached_child g x y m)
takes_task g x y (inr a) = all_task g x a.0 a.1

-- what carries something ended Faulted
carried_end : (g : TaskGraph) (v : List Bool) (h : List Event) (y a : ℕ) (q : Ending) (f : Final) → Run g v h → ending g v h y ≡ Some q → mem a q.carried ≡ true → final g v h y ≡ Some f → f ≡ Faulted
carried_end g v h y a q f run e m p = same_Some f Faulted (sym p ∙ ap final_in e ∙ ap Some (carries_faulted g v h y a q run e m))

-- a continuation that surely begins and sees y observes what y carries
pub seer_observes : (g : TaskGraph) (l : Assumed) (rows : List PlainRow) (v : List Bool) (h : List Event) (r n y a : ℕ) (q : Ending) → Upheld g l rows v h → Complete g v h → kind g r ≡ Continues n → ((f : Final) → final g v h n ≡ Some f → allows (options g r) f ≡ true) → is_loud g l r ≡ false → MustObserve (faulted_view g l r) (body g r) → Sees g v h r y q → mem a q.carried ≡ true → seen g v h a ≡ true
seer_observes g l rows v h r n y a q now complete k allowed not_loud observes e m =
    let o = the_some (ending g v h r) (complete r (continues_task g r n k) (subst (λ z. to_end z (started g v h r) ≡ true) (sym k) refl)) in
    elim (ended_as g v h r n o.0 now.run k o.1) [
      | inl b ↦ by_body b.0 b.1
      | inr c ↦ elim c [
        | inl p ↦ true_false (sym (requested_loud g l v h r now.agrees p) ∙ not_loud)
        | inr p ↦ true_false (sym (allowed p.0 p.1) ∙ p.2)
      ]
    ]
  where
    by_body : is_some (begun h r) ≡ true → is_some (outcome_in (rest g v h r)) ≡ true → seen g v h a ≡ true
    by_body b d =
        let vd = the_some (outcome_in (rest g v h r)) d in
        let full = view_fits g v h l rows r now.run now.agrees now.ends b in
        let w = faulted_view g l r in
        let fits : Fits g v h r w = record {
          own = refl;
          inputs = full.inputs;
          quiet = full.quiet;
          subject = λ s f p z. let same = same_Some y s (sym e.0 ∙ p) in subst (λ n. is_final n Faulted ≡ true) (sym (carried_end g v h y a q f now.run e.1 m (subst (λ n. final g v h n ≡ Some f) (sym same) z))) refl;
          jobs = full.jobs;
        } in
        let path = verdict_path w (body g r) (rest g v h r).outcome (rest g v h r).left (passed g v h r) vd.0 vd.1 (follows g v h r w now.run fits (has_subject_of g r now.valid)) in
        observed_by g v h r n y a q now.run k e m (observes (passed g v h r) vd.0 path)

-- the last of a chain observes what is carried to it
pub reader_observes : (g : TaskGraph) (l : Assumed) (rows : List PlainRow) (v : List Bool) (h : List Event) (r y a : ℕ) (q : Ending) → Upheld g l rows v h → Complete g v h → Reads g l rows r y → ending g v h y ≡ Some q → mem a q.carried ≡ true → seen g v h a ≡ true
reader_observes g l rows v h r y a q now complete reads e m =
    seer_observes g l rows v h r y y a q now complete reads.after
    (λ f p. subst (λ z. allows (options g r) z ≡ true) (sym (carried_end g v h y a q f now.run e m p)) reads.on_faulted) reads.not_loud reads.observes (subject_is g v h r y a q now.run reads.after e m, e) m

-- what a body threw
pub label_verdict : (o : Option Outcome) (lb : Label) → label_in o ≡ Some lb → o ≡ Some (Threw lb)
label_verdict (Some (Threw x)) lb e = let s : x ≡ lb = cc in ap (λ z. Some (Threw z)) s
label_verdict o lb e = some_none lb (sym e)

-- in a complete run the exception that a body threw is seen where what its task carries is
pub thrown_seen : (g : TaskGraph) (v : List Bool) (h : List Event) (t : ℕ) (lb : Label) → Run g v h → Complete g v h → label g v h t ≡ Some lb → (is_task g t → (q : Ending) → ending g v h t ≡ Some q → mem t q.carried ≡ true → seen g v h t ≡ true) → seen g v h t ≡ true
thrown_seen g v h t lb run complete e f =
    let threw = label_verdict (outcome_in (rest g v h t)) lb e in
    let b = threw_begun g v h t lb run threw in
    let q = the_some (ending g v h t) (begun_ends g v h t run complete b) in
    f (begun_task g v h t run b) q.0 q.1 (carries_own g v h t lb q.0 run threw q.1)
