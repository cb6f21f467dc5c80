-- What an event changes of the marks.
use Rattle.std.proofs.Common.{◌≡◌, ℕ, suc, ◌<◌, Bool, true, false, ◌||◌, List, ◌∷◌, length, Some, None, refl, sym, ap, ◌∙◌, nat_eq, arith}
use Rattle.std.specs.Prelude.{slice_get, slice_set, if◌then◌else◌}
use Rattle.std.proofs.lemmas.List.{length-set}
use Rattle.tpl_machine.specs.Recording.{by}
use Rattle.tpl_machine.proofs.StepLemmas.{table_set}
use Rattle.tpl_model.proofs.MemberLemmas.{same_self, other_number}
use Rattle.tpl_model.specs.declared.status.Actor.{Actor}
use Rattle.tpl_model.specs.declared.event.Act.{Act}
use Rattle.tpl_model.specs.declared.event.Act.TheVariants.{Request, Release, Begin, Step, Worked, Leave, Close, Drop, Settle}
use Rattle.tpl_model.specs.declared.event.Event.{Event}
use Rattle.tpl_model.specs.Facts.{begun, released, left_body}
use Rattle.tpl_run.specs.Reading.{began}
use Rattle.tpl_run.specs.Rows.{is_it}
use Rattle.tpl_fast.specs.declared.marks.Mark.{Mark}
use Rattle.tpl_fast.specs.Marks.{acting, mark_at, noted, AreMarks}

same_both : (b : Bool) (m : Mark) → m ≡ (if b then m else m)
same_both true m = refl
same_both false m = refl

-- one more event notes an act of its task, and of no other
pub mark_step : (a : Actor) (act : Act) (h : List Event) (t : ℕ) → mark_at (by a act ∷ h) t ≡ (if is_it (acting act) t then noted a (suc (length h)) act (mark_at h t) else mark_at h t)
mark_step a (Request k) h t = refl
mark_step a (Release s) h t = go (nat_eq s.0 t)
  where
    go : (b : Bool) → (let m : Mark = record { begun = begun h t; began = began h t; released = b || released h t; left = left_body h t } in m) ≡ (if b then noted a (suc (length h)) (Release s) (mark_at h t) else mark_at h t)
    go true = refl
    go false = refl
mark_step a (Begin s) h t = go (nat_eq s.0 t)
  where
    go : (b : Bool) → (let m : Mark = record { begun = if b then Some a else begun h t; began = if b then Some (suc (length h)) else began h t; released = released h t; left = left_body h t } in m) ≡ (if b then noted a (suc (length h)) (Begin s) (mark_at h t) else mark_at h t)
    go true = refl
    go false = refl
mark_step a (Step s) h t = same_both (nat_eq s.0 t) (mark_at h t)
mark_step a (Worked s x) h t = same_both (nat_eq s.0 t) (mark_at h t)
mark_step a (Leave s) h t = go (nat_eq s.0 t)
  where
    go : (b : Bool) → (let m : Mark = record { begun = begun h t; began = began h t; released = released h t; left = b || left_body h t } in m) ≡ (if b then noted a (suc (length h)) (Leave s) (mark_at h t) else mark_at h t)
    go true = refl
    go false = refl
mark_step a (Close s) h t = same_both (nat_eq s.0 t) (mark_at h t)
mark_step a (Drop s) h t = same_both (nat_eq s.0 t) (mark_at h t)
mark_step a (Settle s) h t = same_both (nat_eq s.0 t) (mark_at h t)

module _ (n : ℕ) (h : List Event) (e : Event) (marks marks' : List Mark) (k : AreMarks n h marks) where
  pub noted_nowhere : acting e.act ≡ None → AreMarks n (e ∷ h) marks
  noted_nowhere none = record {
    count = k.count;
    each = λ t lt. k.each t lt ∙ ap Some (sym (mark_step e.actor e.act h t ∙ ap (λ o. if is_it o t then noted e.actor (suc (length h)) e.act (mark_at h t) else mark_at h t) none));
  }

  pub noted_at : (t place : ℕ) → acting e.act ≡ Some t → place ≡ suc (length h) → t < length marks → ((x : Mark) → slice_get marks t ≡ Some x → marks' ≡ slice_set marks t (noted e.actor place e.act x)) → AreMarks n (e ∷ h) marks'
  noted_at t place task place_is lt is =
      let below : t < n = (let c = k.count in omega arith) in
      let x = noted e.actor place e.act (mark_at h t) in
      let all : marks' ≡ slice_set marks t x = is (mark_at h t) (k.each t below) in
      let step : (s : ℕ) → mark_at (e ∷ h) s ≡ (if nat_eq t s then noted e.actor (suc (length h)) e.act (mark_at h s) else mark_at h s) = λ s. mark_step e.actor e.act h s ∙ ap (λ o. if is_it o s then noted e.actor (suc (length h)) e.act (mark_at h s) else mark_at h s) task in
      record {
        count = ap length all ∙ (length-set marks t x ∙ k.count);
        each = λ s lt. ap (λ xs. slice_get xs s) all
            ∙ table_set (mark_at h) (mark_at (e ∷ h)) marks t n x k.count below k.each
            (ap (λ p. noted e.actor p e.act (mark_at h t)) place_is
            ∙ (ap (λ (b : Bool). if b then noted e.actor (suc (length h)) e.act (mark_at h t) else mark_at h t) (sym (same_self t)) ∙ sym (step t)))
            (λ s apart. ap (λ (b : Bool). if b then noted e.actor (suc (length h)) e.act (mark_at h s) else mark_at h s) (sym (other_number t s apart)) ∙ sym (step s))
            s lt;
      }
