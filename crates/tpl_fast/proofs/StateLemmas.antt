-- The task of an allowed act, and what its event ends.
use Rattle.std.proofs.Common.{◌≡◌, ℕ, suc, ◌&&◌, Bool, true, false, List, ◌∷◌, length, Option, Some, refl, sym, ap, subst, nat_eq}
use Rattle.std.specs.Prelude.{if◌then◌else◌}
use Rattle.std.proofs.lemmas.Bool.{eqb-true}
use Rattle.tpl_model.proofs.Truths.{true_false}
use Rattle.tpl_model.specs.declared.status.Actor.{Actor}
use Rattle.tpl_model.specs.declared.event.Act.{Act}
use Rattle.tpl_model.specs.declared.event.Act.TheVariants.{Request, Release, Begin, Step, Worked, Leave, Close, Drop, Settle}
use Rattle.tpl_model.specs.declared.event.Event.{Event}
use Rattle.tpl_model.specs.Graph.{TaskGraph, attached, is_task}
use Rattle.tpl_model.specs.Facts.{Ending, ending, ends_by, ending_by, started, rest, all_over}
use Rattle.tpl_model.specs.Rules.{Allows}
use Rattle.tpl_fast.specs.Marks.{acting}
use Rattle.tpl_fast.specs.Due.{ender}

-- the task of an allowed act is the graph's
pub acting_task : (g : TaskGraph) (v : List Bool) (h : List Event) (a : Actor) (act : Act) (t : ℕ) → Allows g v h a act → acting act ≡ Some t → is_task g t
acting_task g v h a (Request k) t ok e = cc
acting_task g v h a (Release s) t ok e = let same : s.0 ≡ t = cc in subst (λ x. is_task g x) same ok.0
acting_task g v h a (Begin s) t ok e = let same : s.0 ≡ t = cc in subst (λ x. is_task g x) same ok.0
acting_task g v h a (Step s) t ok e = let same : s.0 ≡ t = cc in subst (λ x. is_task g x) same ok.0.task
acting_task g v h a (Worked s x) t ok e = let same : s.0 ≡ t = cc in subst (λ x. is_task g x) same ok.0.task
acting_task g v h a (Leave s) t ok e = let same : s.0 ≡ t = cc in subst (λ x. is_task g x) same ok.0.task
acting_task g v h a (Close s) t ok e = let same : s.0 ≡ t = cc in subst (λ x. is_task g x) same ok.0
acting_task g v h a (Drop s) t ok e = let same : s.0 ≡ t = cc in subst (λ x. is_task g x) same ok.0
acting_task g v h a (Settle s) t ok e = let same : s.0 ≡ t = cc in subst (λ x. is_task g x) same ok.0

-- only a Leave, Close, Drop or Settle ends a task
ends_ender : (g : TaskGraph) (t : ℕ) (act : Act) (begun : ℕ → Bool) (ends : ℕ → Option Ending) → ends_by g t act begun ends ≡ true → ender act ≡ Some t
ends_ender g t (Request k) begun ends e = true_false (sym e)
ends_ender g t (Release s) begun ends e = true_false (sym e)
ends_ender g t (Begin s) begun ends e = true_false (sym e)
ends_ender g t (Step s) begun ends e = true_false (sym e)
ends_ender g t (Worked s x) begun ends e = true_false (sym e)
ends_ender g t (Leave s) begun ends e = go (nat_eq s.0 t) (all_over (attached g t) begun ends) refl e
  where
    go : (b c : Bool) → nat_eq s.0 t ≡ b → (b && c) ≡ true → Some s.0 ≡ Some t
    go true c q r = ap Some (eqb-true s.0 t q)
    go false c q r = true_false (sym r)
ends_ender g t (Close s) begun ends e = ap Some (eqb-true s.0 t e)
ends_ender g t (Drop s) begun ends e = ap Some (eqb-true s.0 t e)
ends_ender g t (Settle s) begun ends e = ap Some (eqb-true s.0 t e)

-- only the task that an act may end has ended by it
pub ending_same : (g : TaskGraph) (v : List Bool) (h : List Event) (e : Event) (x : ℕ) → (ender e.act ≡ Some x → ⊥) → ending g v (e ∷ h) x ≡ ending g v h x
ending_same g v h e x other = go (ends_by g x e.act (started g v h) (ending g v h)) refl
  where
    go : (b : Bool) → ends_by g x e.act (started g v h) (ending g v h) ≡ b → (if b then ending_by g x (suc (length h)) e.actor e.act (rest g v h) (started g v h) (ending g v h) else ending g v h x) ≡ ending g v h x
    go true q = absurd (other (ends_ender g x e.act (started g v h) (ending g v h) q))
    go false q = refl

-- the task that an act may end is its task
ender_acting : (act : Act) (t : ℕ) → ender act ≡ Some t → acting act ≡ Some t
ender_acting (Request k) t e = absurd (cc)
ender_acting (Release s) t e = absurd (cc)
ender_acting (Begin s) t e = absurd (cc)
ender_acting (Step s) t e = absurd (cc)
ender_acting (Worked s x) t e = absurd (cc)
ender_acting (Leave s) t e = e
ender_acting (Close s) t e = e
ender_acting (Drop s) t e = e
ender_acting (Settle s) t e = e

-- another task's ending is as it was
pub ending_kept : (g : TaskGraph) (v : List Bool) (h : List Event) (e : Event) (t : ℕ) → (acting e.act ≡ Some t → ⊥) → ending g v (e ∷ h) t ≡ ending g v h t
ending_kept g v h e t other = ending_same g v h e t (λ is. other (ender_acting e.act t is))
