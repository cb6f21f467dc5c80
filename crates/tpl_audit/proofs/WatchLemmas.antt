-- Places that are noted.
use Rattle.std.proofs.Common.{◌≡◌, ℕ, zero, suc, ◌+◌, ◌<◌, ◌≤◌, Bool, Option, None, List, [], ◌∷◌, length, get_or, take, reverse, replicate, refl, sym, ap, ◌∙◌, subst, arith}
use Rattle.std.proofs.lemmas.List.{take_more, reverse-append, length-reverse, length-take-le}
use Rattle.tpl_model.specs.Graph.{TaskGraph, is_token}
use Rattle.tpl_model.specs.declared.event.Event.{Event}
use Rattle.tpl_model.specs.declared.status.Actor.{Actor}
use Rattle.tpl_model.specs.declared.event.Act.{Act}
use Rattle.tpl_model.specs.declared.event.Act.TheVariants.{Request, Begin, Step, Worked, Leave, Release, Drop, Close, Settle}
use Rattle.tpl_model.specs.Facts.{requested, failed}
use Rattle.tpl_model.specs.Rules.{Run}
use Rattle.tpl_model.specs.Valid.{all_sites}
use Rattle.tpl_model.specs.declared.status.Answer.TheVariants.{Done, Failed}
use Rattle.std.specs.Prelude.{Result, Ok, Err, is_err, true, false, Some, if◌then◌else◌, OnOk}
use Rattle.tpl_laws.specs.RunTests.{is_complete}
use Rattle.tpl_laws.specs.Failing.{IsFrom, is_at, or_now, CompleteIsNoted, RequestIsNoted, JobIsNoted}
use Rattle.tpl_machine.specs.Journal.{Journal, after}
use Rattle.tpl_machine.specs.Recording.{by}
use Rattle.tpl_audit.specs.Audit.{first_events}
use Rattle.tpl_audit.specs.Watching.{noted_at, may_request, noted_after, may_fail, failure_noted_after, IsWatched}

-- what holds of those below i is noted at the place, and of the others as before
pub record NotedSoFar (size : ℕ) (before now : List (Option ℕ)) (holds : ℕ → Bool) (place i : ℕ) : Type 0 where
  pub long : length now ≡ size
  pub noted : (k : ℕ) → k < i → noted_at now k ≡ or_now (noted_at before k) (holds k) place
  pub left : (k : ℕ) → i ≤ k → noted_at now k ≡ noted_at before k

pub none_noted : (n k : ℕ) → noted_at (replicate n None) k ≡ None
none_noted zero k = refl
none_noted (suc n) zero = refl
none_noted (suc n) (suc k) = none_noted n k

-- one more event of a list

pub first_more : (events : List Event) (i : ℕ) (x : Event) → i < length events → x ≡ get_or events i x → first_events events (i + 1) ≡ x ∷ first_events events i
first_more events i x lt is =
    ap reverse (take_more events i x lt) ∙ (reverse-append (take i events) (get_or events i x ∷ []) ∙ ap (λ z. z ∷ reverse (take i events)) (sym is))

pub length-first : (events : List Event) (i : ℕ) → i ≤ length events → length (first_events events i) ≡ i
length-first events i le = length-reverse (take i events) ∙ length-take-le i events le

-- what is noted along a run

pub watch_start : (g : TaskGraph) (v : List Bool) (complete : Option ℕ) (asked failures : List (Option ℕ)) → CompleteIsNoted → RequestIsNoted → JobIsNoted → complete ≡ or_now None (is_complete g v []) 0 → ((k : ℕ) → is_token g k → noted_at asked k ≡ or_now None (requested g v [] k) 0) → ((site : ℕ) → noted_at failures site ≡ None) → IsWatched g v [] complete asked failures
watch_start g v complete asked failures completes requests jobs c r f = record {
  completes = subst (IsFrom (is_complete g v) []) (sym c) (completes g v).0;
  requests = λ k tok. subst (IsFrom (λ before. requested g v before k) []) (sym (r k tok)) (requests g v k).0;
  failures = λ site there. subst (IsFrom (λ before. failed g v before site) []) (sym (f site)) (jobs g v site).0;
}

-- an act that can't request a token leaves each as it is, and one by which no job fails each job

act_leaves : (g : TaskGraph) (v : List Bool) (h : List Event) (actor : Actor) (act : Act) (k site : ℕ) → (may_request act ≡ false → requested g v (by actor act ∷ h) k ≡ requested g v h k) × (may_fail act ≡ false → failed g v (by actor act ∷ h) site ≡ failed g v h site)
act_leaves g v h actor (Request j) k site = (λ e. absurd (cc), λ e. refl)
act_leaves g v h actor (Step t) k site = (λ e. absurd (cc), λ e. refl)
act_leaves g v h actor (Begin t) k site = (λ e. refl, λ e. refl)
act_leaves g v h actor (Worked t Failed) k site = (λ e. refl, λ e. absurd (cc))
act_leaves g v h actor (Worked t Done) k site = (λ e. refl, λ e. refl)
act_leaves g v h actor (Leave t) k site = (λ e. refl, λ e. refl)
act_leaves g v h actor (Release t) k site = (λ e. refl, λ e. refl)
act_leaves g v h actor (Drop t) k site = (λ e. refl, λ e. refl)
act_leaves g v h actor (Close t) k site = (λ e. refl, λ e. refl)
act_leaves g v h actor (Settle t) k site = (λ e. refl, λ e. refl)

noted_stays : (old : Option ℕ) (now : Bool) (place n : ℕ) → now ≡ is_at old n → or_now old now place ≡ old
noted_stays None now place n e = ap (λ b. or_now None b place) e
noted_stays (Some p) now place n e = refl

-- what is left as it was is noted already, so that it need not be looked at
noted_anyway : (may : Bool) (old : Option ℕ) (now before : Bool) (place n : ℕ) → before ≡ is_at old n → (may ≡ false → now ≡ before) → (if may then or_now old now place else old) ≡ or_now old now place
noted_anyway true old now before place n e same = refl
noted_anyway false old now before place n e same = sym (noted_stays old now place n (same refl ∙ e))

-- so what is noted after any act is what would be noted where each token is looked at
pub noted_is_now : (g : TaskGraph) (v : List Bool) (h : List Event) (x : Event) (k place : ℕ) (old : Option ℕ) → IsFrom (λ before. requested g v before k) h old → noted_after x.act old (requested g v (x ∷ h) k) place ≡ or_now old (requested g v (x ∷ h) k) place
noted_is_now g v h x k place old from = noted_anyway (may_request x.act) old (requested g v (x ∷ h) k) (requested g v h k) place (length h) (from.each [] h refl) (act_leaves g v h x.actor x.act k 0).0

-- and each job
pub failure_noted_is_now : (g : TaskGraph) (v : List Bool) (h : List Event) (x : Event) (site place : ℕ) (old : Option ℕ) → IsFrom (λ before. failed g v before site) h old → failure_noted_after x.act old (failed g v (x ∷ h) site) place ≡ or_now old (failed g v (x ∷ h) site) place
failure_noted_is_now g v h x site place old from = noted_anyway (may_fail x.act) old (failed g v (x ∷ h) site) (failed g v h site) place (length h) (from.each [] h refl) (act_leaves g v h x.actor x.act 0 site).1

pub watch_more : (g : TaskGraph) (v : List Bool) (h : List Event) (x : Event) (place : ℕ) (old new : Option ℕ) (asked more failures others : List (Option ℕ)) → CompleteIsNoted → RequestIsNoted → JobIsNoted → Run g v (x ∷ h) → place ≡ suc (length h) → IsWatched g v h old asked failures → new ≡ or_now old (is_complete g v (x ∷ h)) place → ((k : ℕ) → is_token g k → noted_at more k ≡ or_now (noted_at asked k) (requested g v (x ∷ h) k) place) → ((site : ℕ) → site < length (all_sites g) → noted_at others site ≡ or_now (noted_at failures site) (failed g v (x ∷ h) site) place) → IsWatched g v (x ∷ h) new more others
watch_more g v h x place old new asked more failures others completes requests jobs run at w c r f = record {
  completes = subst (IsFrom (is_complete g v) (x ∷ h)) (sym (c ∙ ap (or_now old (is_complete g v (x ∷ h))) at)) ((completes g v).1 h x old run w.completes);
  requests = λ k tok.
      subst (IsFrom (λ before. requested g v before k) (x ∷ h)) (sym (r k tok ∙ ap (or_now (noted_at asked k) (requested g v (x ∷ h) k)) at)) ((requests g v k).1 h x (noted_at asked k) run (w.requests k tok));
  failures = λ site there.
      subst (IsFrom (λ before. failed g v before site) (x ∷ h)) (sym (f site there ∙ ap (or_now (noted_at failures site) (failed g v (x ∷ h) site)) at)) ((jobs g v site).1 h x (noted_at failures site) (w.failures site there));
}

-- the first events of a list were done, and what came to be true was noted
pub record Played (first now : Journal) (events : List Event) (i : ℕ) (complete : Option ℕ) (asked failures : List (Option ℕ)) : Type 0 where
  pub journal : now ≡ record first { events = first_events events i }
  pub watched : IsWatched first.graph first.inputs (first_events events i) complete asked failures

pub played_none : (first : Journal) (events : List Event) (complete : Option ℕ) (asked failures : List (Option ℕ)) → first.events ≡ [] → IsWatched first.graph first.inputs first.events complete asked failures → Played first first events 0 complete asked failures
played_none first events complete asked failures none w = record {
  journal = ap (λ h. record first { events = h }) (none ∙ sym (nothing events));
  watched = subst (λ h. IsWatched first.graph first.inputs h complete asked failures) (none ∙ sym (nothing events)) w;
}
  where
    nothing : (xs : List Event) → first_events xs 0 ≡ []
    nothing [] = refl
    nothing (x ∷ xs) = refl

pub played_more : (first before now : Journal) (events : List Event) (i : ℕ) (x : Event) (place : ℕ) (old new : Option ℕ) (asked more failures others : List (Option ℕ)) → CompleteIsNoted → RequestIsNoted → JobIsNoted → i < length events → x ≡ get_or events i x → place ≡ i + 1 → Played first before events i old asked failures → now ≡ after before x → Run now.graph now.inputs now.events → new ≡ or_now old (is_complete now.graph now.inputs now.events) place → ((k : ℕ) → is_token now.graph k → noted_at more k ≡ noted_after x.act (noted_at asked k) (requested now.graph now.inputs now.events k) place) → ((site : ℕ) → site < length (all_sites now.graph) → noted_at others site ≡ failure_noted_after x.act (noted_at failures site) (failed now.graph now.inputs now.events site) place) → Played first now events (i + 1) new more others
played_more first before now events i x place old new asked more failures others completes requests jobs lt is at p made run c r f =
    let done : now ≡ record first { events = x ∷ first_events events i } = made ∙ ap (λ z. after z x) p.journal in
    let next = first_more events i x lt is in
    let size = length-first events i (omega arith) in
    let run_on : Run first.graph first.inputs (x ∷ first_events events i) = subst (λ z. Run z.graph z.inputs z.events) done run in
    let c_on : new ≡ or_now old (is_complete first.graph first.inputs (x ∷ first_events events i)) place = c ∙ ap (λ (z : Journal). or_now old (is_complete z.graph z.inputs z.events) place) done in
    let r_on : (k : ℕ) → is_token first.graph k → noted_at more k ≡ or_now (noted_at asked k) (requested first.graph first.inputs (x ∷ first_events events i) k) place = λ k tok. r k (subst (λ (z : Journal). is_token z.graph k) (sym done) tok) ∙ (ap (λ (z : Journal). noted_after x.act (noted_at asked k) (requested z.graph z.inputs z.events k) place) done ∙ noted_is_now first.graph first.inputs (first_events events i) x k place (noted_at asked k) (p.watched.requests k tok)) in
    let f_on : (site : ℕ) → site < length (all_sites first.graph) → noted_at others site ≡ or_now (noted_at failures site) (failed first.graph first.inputs (x ∷ first_events events i) site) place = λ site there. f site (subst (λ (z : Journal). site < length (all_sites z.graph)) (sym done) there) ∙ (ap (λ (z : Journal). failure_noted_after x.act (noted_at failures site) (failed z.graph z.inputs z.events site) place) done ∙ failure_noted_is_now first.graph first.inputs (first_events events i) x site place (noted_at failures site) (p.watched.failures site there)) in
    record {
      journal = done ∙ ap (λ h. record first { events = h }) (sym next);
      watched = subst (λ h. IsWatched first.graph first.inputs h new more others) (sym next) (watch_more first.graph first.inputs (first_events events i) x place old new asked more failures others completes requests jobs run_on (omega arith) p.watched c_on r_on f_on);
    }

pub when_ok : {T E : Type 0} (r : Result T E) (P : Type 0) → false ≡ is_err r → OnOk r P → P
when_ok (Ok x) P e p = p
when_ok (Err x) P e p = absurd (cc)

-- what stands past the end makes no difference
pub at_default : {A : Type 0} (xs : List A) (i : ℕ) (d e : A) → i < length xs → get_or xs i d ≡ get_or xs i e
at_default [] i d e lt = absurd (omega arith)
at_default (x ∷ xs) zero d e lt = refl
at_default (x ∷ xs) (suc i) d e lt = at_default xs i d e (omega arith)
