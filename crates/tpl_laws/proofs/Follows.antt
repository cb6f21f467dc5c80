-- Each real execution of a body is one of its paths.
use Rattle.tpl_laws.proofs.Sources.{through_here}
use Rattle.tpl_model.specs.declared.finals.Final.{Final}
use Rattle.tpl_model.specs.Finals.{is_final}
use Rattle.tpl_model.specs.Statements.{Statement, Return, Throw, Check, Cancel, Start, Observe, Work, If, When, Statements, Nothing, ◌⨾◌, followed_by, reads_nothing}
use Rattle.tpl_model.specs.Graph.{TaskGraph, TaskKind, Continues, WhenAny, task, kind, body}
use Rattle.tpl_model.specs.declared.status.Actor.{Actor}
use Rattle.tpl_model.specs.declared.status.Answer.{Answer}
use Rattle.tpl_model.specs.declared.status.Answer.TheVariants.{Done, Failed}
use Rattle.tpl_model.specs.declared.event.Act.{Act}
use Rattle.tpl_model.specs.declared.event.Act.TheVariants.{Step, Worked}
use Rattle.tpl_model.specs.declared.event.Event.{Event}
use Rattle.tpl_model.specs.Facts.{Rest, Ending, on, over, begun, stepped, worked, final_in, winner_of, rest, requested, failed, fails_by, is_work, ending, is_cancel, subject_in, subject_of, has_final, is_end, requested_itself}
use Rattle.tpl_model.specs.Paths.{cancellation, Known, Passes}
pub use Rattle.tpl_model.proofs.KnownPaths.{FollowsBy}
use Rattle.tpl_model.specs.Rules.{final, subject, Allows, Run, steps, works}
use Rattle.tpl_model.specs.Claims.{input}
use Rattle.tpl_model.specs.Valid.{HasSubject}
use Rattle.tpl_laws.proofs.Basics.{some_none, same_number, final_same}
use Rattle.tpl_laws.proofs.Kept.{id, after, not_some, running_facts, ending_kept, final_kept, requested_kept, failed_kept, final_of}
use Rattle.tpl_laws.proofs.Execution.{pushed, passed, reads_left}
use Rattle.tpl_laws.proofs.Ready.{EndedSo, Ready, begun_ready, any_winner}
use Rattle.std.proofs.Common.{◌≡◌, ℕ, ◌⊎◌, inl, inr, Bool, true, false, if◌then◌else◌, Option, Some, None, List, [], ◌∷◌, refl, sym, ap, ◌∙◌, subst, nat_eq, is_some, slice_index_or}
use Rattle.std.proofs.lemmas.Bool.{or_left}
use Rattle.tpl_model.proofs.MemberLemmas.{same_self}
use Rattle.tpl_model.proofs.Truths.{true_false}

-- the view's assumptions are true of a run so far
pub record Fits (g : TaskGraph) (v : List Bool) (h : List Event) (t : ℕ) (w : Known) : Type 0 where
  pub own : w.own ≡ (task g t).token
  pub inputs : (i : ℕ) → w.possible i (input v i) ≡ true
  pub quiet : (k : ℕ) → requested g v h k ≡ true → w.quiet k ≡ false
  pub subject : (s : ℕ) (f : Final) → subject g v h t ≡ Some s → final g v h s ≡ Some f → w.subject f ≡ true
  pub jobs : (site : ℕ) → failed g v h site ≡ true → w.sure site ≡ false

pub winner_some : (o : Option Ending) (s : ℕ) → winner_of o ≡ Some s → (r : Ending) × (o ≡ Some r) × (r.winner ≡ Some s)
winner_some None s e = some_none s (sym e)
winner_some (Some r) s e = (r, refl, e)

pub subject_kept : (g : TaskGraph) (v : List Bool) (h : List Event) (a : Actor) (x : Act) (t s : ℕ) → Allows g v h a x → subject g v h t ≡ Some s → subject g v (after a x h) t ≡ Some s
subject_kept g v h a x t s al e = by_kind (kind g t) e
  where
    of_kind : (c : ℕ) (k : TaskKind) → subject_of k c (ending g v h c) ≡ Some s → subject_of k c (ending g v (after a x h) c) ≡ Some s
    of_kind c (WhenAny args) n =
        let r = winner_some (ending g v h c) s n in
        ap winner_of (ending_kept g v h a x c r.0 al r.1) ∙ r.2
    of_kind c k n = n

    by_kind : (k : TaskKind) → subject_in g k (ending g v h) ≡ Some s → subject_in g k (ending g v (after a x h)) ≡ Some s
    by_kind (Continues c) n = of_kind c (kind g c) n
    by_kind k n = n

fits_before : (g : TaskGraph) (v : List Bool) (h : List Event) (a : Actor) (x : Act) (t : ℕ) (w : Known) → Allows g v h a x → Fits g v (after a x h) t w → Fits g v h t w
fits_before g v h a x t w al f = record {
  own = f.own;
  inputs = f.inputs;
  quiet = λ k e. f.quiet k (requested_kept g v h a x k e);
  subject = λ s e p q. f.subject s e (subject_kept g v h a x t s al p) (final_kept g v h a x s e al q);
  jobs = λ site e. f.jobs site (failed_kept g v h a x site e);
}

-- the subject of a continuation that has begun has ended
pub has_subject : (g : TaskGraph) (v : List Bool) (h : List Event) (t a : ℕ) → Run g v h → is_some (begun h t) ≡ true → kind g t ≡ Continues a → (s : ℕ) × (f : Final) × (subject g v h t ≡ Some s) × (final g v h s ≡ Some f)
has_subject g v h t a run b k =
    let ready : EndedSo g v h t a true = subst (λ z. Ready g v h t z) k (begun_ready g v h t run b) in
    let w = by_kind (kind g a) refl ready.0 ready.1 in
    (w.0, w.1, ap (λ z. subject_in g z (ending g v h)) k ∙ w.2, w.3)
  where
    by_kind : (k2 : TaskKind) → kind g a ≡ k2 → (f : Final) → final g v h a ≡ Some f → (s : ℕ) × (f : Final) × (subject_of k2 a (ending g v h a) ≡ Some s) × (final g v h s ≡ Some f)
    by_kind (WhenAny args) e f m =
        let r = final_of (ending g v h a) f m in
        let w = any_winner g v h a args r.0 run e r.1 in
        (w.0, w.1.final, ap winner_of r.1 ∙ w.2, ap final_in w.4)
    by_kind k2 e f m = (a, f, refl, m)

-- what is left of a body after these statements, or the verdict with which it ended
abbrev pub Follows : Known → Statements → Rest → List Statement → Type 0
Follows w body r ps = FollowsBy w body r.outcome r.left ps

either_follows : (w : Known) (body : Statements) (b : Bool) (x y : Rest) (p q : List Statement) → (b ≡ true → Follows w body x p) → (b ≡ false → Follows w body y q) → Follows w body (if b then x else y) (if b then p else q)
either_follows w body true x y p q f g = f refl
either_follows w body false x y p q f g = g refl

either_rest_follows : (w : Known) (body : Statements) (b : Bool) (x y : Rest) (p : List Statement) → (b ≡ true → Follows w body x p) → (b ≡ false → Follows w body y p) → Follows w body (if b then x else y) p
either_rest_follows w body true x y p f g = f refl
either_rest_follows w body false x y p f g = g refl

either_left : (w : Known) (body : Statements) (b : Bool) (x y more : Statements) (p : List Statement) → (b ≡ true → Passes w body p (followed_by x more)) → (b ≡ false → Passes w body p (followed_by y more)) → Passes w body p (followed_by (if b then x else y) more)
either_left w body true x y more p f g = f refl
either_left w body false x y more p f g = g refl

-- a step follows a path
step_follows : (g : TaskGraph) (v : List Bool) (h : List Event) (t : ℕ) (w : Known) (body : Statements) (ps : List Statement) (left : Statements) → Fits g v h t w
    → ((k : ℕ) → is_cancel k left ≡ true → w.quiet k ≡ false)
    → (reads_nothing left ≡ true) ⊎ ((s : ℕ) × (f : Final) × (subject g v h t ≡ Some s) × (final g v h s ≡ Some f))
    → steps left ≡ true → Passes w body ps left → Follows w body (stepped g v t left (requested g v h) (ending g v h)) (pushed left ps)
step_follows g v h t w body ps Nothing f c sub st p = true_false (sym st)
step_follows g v h t w body ps (Return ⨾ more) f c sub st p = (refl, (more, p, refl))
step_follows g v h t w body ps (Throw l ⨾ more) f c sub st p = (refl, (more, p, refl))
step_follows g v h t w body ps (Check k ⨾ more) f c sub st p =
    either_rest_follows w body (requested g v h k) (over (cancellation (task g t).token k)) (on more) (Check k ∷ ps)
    (λ e. (refl, (more, p, (f.quiet k e, ap (λ o. cancellation o k) (sym f.own)))))
    (λ e. (more, p, refl))
step_follows g v h t w body ps (Cancel k ⨾ more) f c sub st p = (more, p, (c k (same_self k), refl))
step_follows g v h t w body ps (Start d ⨾ more) f c sub st p = (more, p, refl)
step_follows g v h t w body ps (Observe ⨾ more) f c sub st p = (more, p, refl)
step_follows g v h t w body ps (Work s m ⨾ more) f c sub st p = true_false (sym st)
step_follows g v h t w body ps (If i a b ⨾ more) f c sub st p =
    either_left w body (slice_index_or v i false) a b more (If i a b ∷ ps)
    (λ e. (more, p, inl (subst (λ z. w.possible i z ≡ true) e (f.inputs i), refl)))
    (λ e. (more, p, inr (subst (λ z. w.possible i z ≡ true) e (f.inputs i), refl)))
step_follows g v h t w body ps (When n a b ⨾ more) f c (inl none_read) st p = true_false (sym none_read)
step_follows g v h t w body ps (When n a b ⨾ more) f c (inr s) st p =
    either_left w body (has_final n (ending g v h) (subject_in g (kind g t) (ending g v h))) a b more (When n a b ∷ ps)
    (λ e. (more, p, inl (subst (λ z. w.subject z ≡ true) (sym (final_same n s.1 (sym same_test ∙ e))) (f.subject s.0 s.1 s.2 s.3), refl)))
    (λ e. (more, p, inr (s.1, sym same_test ∙ e, f.subject s.0 s.1 s.2 s.3, refl)))
  where
    same_test : has_final n (ending g v h) (subject_in g (kind g t) (ending g v h)) ≡ is_final n s.1
    same_test = ap (has_final n (ending g v h)) s.2 ∙ ap (is_end n) s.3

work_follows : (g : TaskGraph) (w : Known) (body : Statements) (ps : List Statement) (answer : Answer) (left : Statements) → ((site : ℕ) → answer ≡ Failed → is_work site left ≡ true → w.sure site ≡ false) → works answer left ≡ true → Passes w body ps left → Follows w body (worked answer left) (pushed left ps)
work_follows g w body ps Done (Work s m ⨾ more) c e p = (more, p, refl)
work_follows g w body ps Failed (Work s m ⨾ more) c e p = (refl, (more, p, (e, c s refl (same_self s), refl)))
work_follows g w body ps answer left c e p = true_false (sym e)

reads_subject : (g : TaskGraph) (v : List Bool) (h : List Event) (t : ℕ) → Run g v h → is_some (begun h t) ≡ true → HasSubject (kind g t) (body g t) → (reads_nothing (rest g v h t).left ≡ true) ⊎ ((s : ℕ) × (f : Final) × (subject g v h t ≡ Some s) × (final g v h s ≡ Some f))
reads_subject g v h t run b = by_kind (kind g t) refl
  where
    by_kind : (k : TaskKind) → kind g t ≡ k → HasSubject k (body g t) → (reads_nothing (rest g v h t).left ≡ true) ⊎ ((s : ℕ) × (f : Final) × (subject g v h t ≡ Some s) × (final g v h s ≡ Some f))
    by_kind (Continues a) e n = inr (has_subject g v h t a run b e)
    by_kind k e n = inl (reads_left g v h t n)

-- what t has passed is a path of its body, in each view whose assumptions are true of the run
pub follows : (g : TaskGraph) (v : List Bool) (h : List Event) (t : ℕ) (w : Known) → Run g v h → Fits g v h t w → HasSubject (kind g t) (body g t) → Follows w (body g t) (rest g v h t) (passed g v h t)
follows g v [] t w run f n = refl
follows g v (e ∷ h) t w run f n = here (follows g v h t w run.0 (fits_before g v h e.actor e.act t w run.1 f) n) e.actor e.act run.1 f
  where
    step_case : (a : Actor) → Follows w (body g t) (rest g v h t) (passed g v h t) → Allows g v h a (Step (id t)) → Fits g v (after a (Step (id t)) h) t w → Follows w (body g t) (stepped g v t (rest g v h t).left (requested g v h) (ending g v h)) (pushed (rest g v h t).left (passed g v h t))
    step_case a old al f2 =
        step_follows g v h t w (body g t) (passed g v h t) (rest g v h t).left (fits_before g v h a (Step (id t)) t w al f2)
        (λ k c. f2.quiet k (through_here g (requested_itself g v (after a (Step (id t)) h)) k (or_left (is_cancel k (rest g v h t).left) (requested_itself g v h k) c)))
        (reads_subject g v h t run.0 (running_facts g v h a t al.0).2 n)
        al.2
        (subst (λ z. FollowsBy w (body g t) z (rest g v h t).left (passed g v h t)) (not_some (rest g v h t).outcome al.1) old)

    work_case : (a : Actor) (answer : Answer) → Follows w (body g t) (rest g v h t) (passed g v h t) → Allows g v h a (Worked (id t) answer) → Fits g v (after a (Worked (id t) answer) h) t w → Follows w (body g t) (worked answer (rest g v h t).left) (pushed (rest g v h t).left (passed g v h t))
    work_case a answer old al f2 =
        work_follows g w (body g t) (passed g v h t) answer (rest g v h t).left
        (λ site q c. f2.jobs site (or_left (fails_by site (Worked (id t) answer) (rest g v h)) (failed g v h site) (subst (λ z. fails_by site (Worked (id t) z) (rest g v h) ≡ true) (sym q) c)))
        al.2
        (subst (λ z. FollowsBy w (body g t) z (rest g v h t).left (passed g v h t)) (not_some (rest g v h t).outcome al.1) old)

    here : Follows w (body g t) (rest g v h t) (passed g v h t) → (a : Actor) (x : Act) → Allows g v h a x → Fits g v (after a x h) t w → Follows w (body g t) (rest g v (after a x h) t) (passed g v (after a x h) t)
    here old a (Step s) al f2 =
        either_follows w (body g t) (nat_eq s.0 t) (stepped g v t (rest g v h t).left (requested g v h) (ending g v h)) (rest g v h t) (pushed (rest g v h t).left (passed g v h t)) (passed g v h t)
        (λ q. step_case a old (subst (λ z. Allows g v h a (Step (id z))) (same_number s.0 t q) al) (subst (λ z. Fits g v (after a (Step (id z)) h) t w) (same_number s.0 t q) f2))
        (λ q. old)
    here old a (Worked s answer) al f2 =
        either_follows w (body g t) (nat_eq s.0 t) (worked answer (rest g v h t).left) (rest g v h t) (pushed (rest g v h t).left (passed g v h t)) (passed g v h t)
        (λ q. work_case a answer old (subst (λ z. Allows g v h a (Worked (id z) answer)) (same_number s.0 t q) al) (subst (λ z. Fits g v (after a (Worked (id z) answer) h) t w) (same_number s.0 t q) f2))
        (λ q. old)
    here old a x al f2 = old
