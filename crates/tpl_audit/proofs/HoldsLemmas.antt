-- What the readers of a run say of claims.
use Rattle.std.proofs.Common.{◌≡◌, ℕ, suc, ◌<◌, ◌++◌, ◌⊎◌, inl, inr, Bool, true, false, if◌then◌else◌, Option, Some, None, List, [], ◌∷◌, refl, sym, ap, ◌∙◌, subst, arith, is_some, length, ◌↔◌}
use Rattle.std.specs.Prelude.{IfNone}
use Rattle.tpl_model.specs.declared.ids.TaskId.{TaskId}
use Rattle.tpl_model.specs.declared.status.Actor.{Actor}
use Rattle.tpl_model.specs.Graph.{TaskGraph, is_task, IsParent}
use Rattle.tpl_model.specs.declared.event.Event.{Event}
use Rattle.tpl_model.specs.declared.claim.Given.{Given}
use Rattle.tpl_model.specs.Facts.{Ending, begun, begun_by, started, ending}
use Rattle.tpl_model.specs.Rules.{Run}
use Rattle.tpl_model.specs.Valid.{IsGraph}
use Rattle.tpl_model.specs.Claims.{IsGiven, SettledAtBegin}
use Rattle.tpl_draft.specs.Named.{Named}
use Rattle.tpl_run.specs.Reading.{began}
use Rattle.tpl_laws.specs.Settling.{SettledBefore, ended_before, never_started, SettledBeforeItsBegin}

-- what is given, one after the other: what is left decides all of it
pub record GivenFrom (g : TaskGraph) (v : List Bool) (h : List Event) (all left : List Given) : Type 0 where
  pub to_all : IsGiven g v h left → IsGiven g v h all
  pub to_left : IsGiven g v h all → IsGiven g v h left

-- a task has begun just where it did so at some place
pub has_begun_at : (h : List Event) (t : ℕ) → is_some (began h t) ≡ is_some (begun h t)
has_begun_at [] t = refl
has_begun_at (e ∷ h) t = here (has_begun_at h t) (begun_by e.act t)
  where
    here : is_some (began h t) ≡ is_some (begun h t) → (b : Bool) → is_some (if b then Some (suc (length h)) else began h t) ≡ is_some (if b then Some e.actor else begun h t)
    here before true = refl
    here before false = before

pub none_begun : (h : List Event) (t : ℕ) → began h t ≡ None → begun h t ≡ None
none_begun h t e = none_in (begun h t) (sym (has_begun_at h t) ∙ ap is_some e)
  where
    none_in : (o : Option Actor) → is_some o ≡ false → o ≡ None
    none_in None n = refl
    none_in (Some a) n = absurd (cc)

-- the event by which t began stands at this place
record BeganAt (h : List Event) (t place : ℕ) : Type 0 where
  later : List Event
  event : Event
  before : List Event
  split : later ++ event ∷ before ≡ h
  by : begun_by event.act t ≡ true
  at : suc (length before) ≡ place

began_at : (h : List Event) (t place : ℕ) → began h t ≡ Some place → BeganAt h t place
began_at [] t place e = absurd (cc)
began_at (x ∷ h) t place e = here (began_at h t place) (begun_by x.act t) refl e
  where
    here : (began h t ≡ Some place → BeganAt h t place) → (b : Bool) → begun_by x.act t ≡ b → (if b then Some (suc (length h)) else began h t) ≡ Some place → BeganAt (x ∷ h) t place
    here earlier true by now = let same : suc (length h) ≡ place = cc in record { later = []; event = x; before = h; split = refl; by = by; at = same }
    here earlier false by now =
        let w = earlier now in
        record { later = x ∷ w.later; event = w.event; before = w.before; split = ap (λ z. x ∷ z) w.split; by = w.by; at = w.at }

pub settled_by_place : (g : TaskGraph) (v : List Bool) (h : List Event) (a b place : ℕ) → IsGraph g → Run g v h → SettledBeforeItsBegin → began h b ≡ Some place → SettledAtBegin g v a b h ↔ SettledBefore g v h place a
settled_by_place g v h a b place valid run law e =
    let w = began_at h b place e in
    subst (λ z. SettledAtBegin g v a b h ↔ SettledBefore g v h z a) w.at
    (subst (λ z. SettledAtBegin g v a b z ↔ SettledBefore g v z (suc (length w.before)) a) w.split
    (law g v w.later w.before w.event a b valid (subst (Run g v) (sym w.split) run) w.by))

-- the walk up from t has come to x: both are settled before the place, or neither is
pub record WalksUp (g : TaskGraph) (v : List Bool) (h : List Event) (place t x : ℕ) : Type 0 where
  pub task : is_task g x
  pub to_first : SettledBefore g v h place x → SettledBefore g v h place t
  pub to_here : SettledBefore g v h place t → SettledBefore g v h place x

abbrev pub EndedBefore : TaskGraph → List Bool → List Event → ℕ → ℕ → Type 0
EndedBefore g v h place t = (e : Ending) × (ending g v h t ≡ Some e) × (e.place < place)

pub parent_before : (g : TaskGraph) (t p : ℕ) → IsGraph g → is_task g t → IsParent g p t → p < t
parent_before g t p valid task par =
    let rules = valid.each t task in
    let q = rules.parent (rules.child p par) in
    subst (λ z. z < t) (rules.one_parent q.0 p q.1 par) q.2

above : (g : TaskGraph) (v : List Bool) (h : List Event) (place x p : ℕ) → IsGraph g → is_task g x → (EndedBefore g v h place x → ⊥) → IsParent g p x → SettledBefore g v h place x → SettledBefore g v h place p
above g v h place x p valid task late par (ended_before {e = e} at early) = absurd (late (e, at, early))
above g v h place x p valid task late par (never_started {p = q} none up s) = subst (SettledBefore g v h place) ((valid.each x task).one_parent q p up par) s

pub walk_on : (g : TaskGraph) (v : List Bool) (h : List Event) (place t x p : ℕ) → IsGraph g → (EndedBefore g v h place x → ⊥) → started g v h x ≡ false → IsParent g p x → WalksUp g v h place t x → WalksUp g v h place t p
walk_on g v h place t x p valid late none par w =
    let first : p < x = parent_before g x p valid w.task par in
    let here = w.task in
    record {
      task = omega arith;
      to_first = λ s. w.to_first (never_started none par s);
      to_here = λ s. above g v h place x p valid w.task late par (w.to_here s);
    }

pub walk_ends : (g : TaskGraph) (v : List Bool) (h : List Event) (place t x : ℕ) → EndedBefore g v h place x → WalksUp g v h place t x → SettledBefore g v h place t
walk_ends g v h place t x (e, at, early) w = w.to_first (ended_before {e = e} at early)

not_settled : (g : TaskGraph) (v : List Bool) (h : List Event) (place x : ℕ) → (EndedBefore g v h place x → ⊥) → (started g v h x ≡ true) ⊎ ((p : ℕ) → IsParent g p x → ⊥) → SettledBefore g v h place x → ⊥
not_settled g v h place x late stays (ended_before {e = e} at early) = late (e, at, early)
not_settled g v h place x late (inl begun_child) (never_started {p = p} none up s) = let both : true ≡ false = sym begun_child ∙ none in absurd (cc)
not_settled g v h place x late (inr no_parent) (never_started {p = p} none up s) = no_parent p up

pub walk_stops : (g : TaskGraph) (v : List Bool) (h : List Event) (place t x : ℕ) → (EndedBefore g v h place x → ⊥) → (started g v h x ≡ true) ⊎ ((p : ℕ) → IsParent g p x → ⊥) → WalksUp g v h place t x → SettledBefore g v h place t → ⊥
walk_stops g v h place t x late stays w s = not_settled g v h place x late stays (w.to_here s)

-- the reader's graph is the run's
pub no_parent : (o : Option TaskId) (begun_child : Bool) (shown n : Named) (t : ℕ) → shown ≡ n → IfNone o ((p : ℕ) → IsParent shown.graph p t → ⊥) → IfNone o ((begun_child ≡ true) ⊎ ((p : ℕ) → IsParent n.graph p t → ⊥))
no_parent None begun_child shown n t same none = inr (subst (λ z. (p : ℕ) → IsParent z.graph p t → ⊥) same none)
no_parent (Some p) begun_child shown n t same none = none
