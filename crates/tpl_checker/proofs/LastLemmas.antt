-- Leaves in which each body sees the same.
use Rattle.std.proofs.Common.{◌≡◌, ℕ, ◌<◌, ◌&&◌, inl, inr, Bool, true, false, List, [], ◌∷◌, length, nat_lt, refl, sym, ap, ◌∙◌, slice_index_or, arith}
use Rattle.std.proofs.lemmas.Bool.{and_parts, cases_lt}
use Rattle.std.specs.Cmp.Lexicographic.{pointwise}
use Rattle.tpl_model.proofs.Truths.{beq_same, true_false}
use Rattle.tpl_model.specs.declared.finals.Final.{Final}
use Rattle.tpl_model.specs.declared.finals.Finals.{Finals}
use Rattle.tpl_model.specs.declared.view.Possible.{Possible}
use Rattle.tpl_model.specs.View.{may_have}
use Rattle.tpl_model.specs.Paths.{Known}
use Rattle.tpl_model.specs.Recursion.{may, none, is_throw, reaches}
use Rattle.tpl_model.specs.Graph.{TaskGraph, task, kind, body}
use Rattle.tpl_model.specs.Certificate.{PlainRow, Assumed, view, subject_set}
use Rattle.tpl_laws.specs.RowTests.{is_return, is_acknowledgement}
use Rattle.tpl_checker.specs.declared.assumptions.Assumptions.{Assumptions}
use Rattle.tpl_checker.specs.declared.bodies.Bodies.{Bodies}
use Rattle.tpl_checker.specs.Assumptions.{assumed_of, both}
use Rattle.tpl_checker.specs.Bodies.{AreBodies}
use mathlib.Core.Bool.{beq}

pub same_lists : {A : Type 0} (same : A → A → Bool) → ((x y : A) → same x y ≡ true → x ≡ y) → (xs ys : List A) → pointwise same xs ys ≡ true → xs ≡ ys
same_lists same is [] [] e = refl
same_lists same is [] (y ∷ ys) e = true_false (sym e)
same_lists same is (x ∷ xs) [] e = true_false (sym e)
same_lists same is (x ∷ xs) (y ∷ ys) e =
    let p = and_parts (same x y) (pointwise same xs ys) e in
    λ i. is x y p.0 i ∷ same_lists same is xs ys p.1 i

pub same_possible : (p q : Possible) → (beq p.on_true q.on_true && beq p.on_false q.on_false) ≡ true → p ≡ q
same_possible p q e =
    let s = and_parts (beq p.on_true q.on_true) (beq p.on_false q.on_false) e in
    λ i. record { on_true = beq_same p.on_true q.on_true s.0 i; on_false = beq_same p.on_false q.on_false s.1 i }

pub same_finals : (a b : Finals) → (beq a.ran b.ran && (beq a.canceled b.canceled && beq a.faulted b.faulted)) ≡ true → a ≡ b
same_finals a b e =
    let s = and_parts (beq a.ran b.ran) (beq a.canceled b.canceled && beq a.faulted b.faulted) e in
    let r = and_parts (beq a.canceled b.canceled) (beq a.faulted b.faulted) s.1 in
    λ i. record { ran = beq_same a.ran b.ran s.0 i; canceled = beq_same a.canceled b.canceled r.0 i; faulted = beq_same a.faulted b.faulted r.1 i }

pub same_view : (g : TaskGraph) (a b : Assumptions) (xs ys : List PlainRow) (t : ℕ) → a.inputs ≡ b.inputs → a.quiet ≡ b.quiet → a.sure ≡ b.sure → ((f : Final) → subject_set g xs t (kind g t) f ≡ subject_set g ys t (kind g t) f) → view g (assumed_of a) xs t ≡ view g (assumed_of b) ys t
same_view g a b xs ys t inputs quiet sure subjects = λ i. record {
  possible = λ k value. may_have (slice_index_or (inputs i) k both) value;
  quiet = λ k. slice_index_or (quiet i) k false;
  own = (task g t).token;
  subject = λ f. subjects f i;
  sure = λ k. slice_index_or (sure i) k false;
}

-- where each body sees the same, the bodies end alike and start the same children
pub same_bodies : (g : TaskGraph) (l m : Assumed) (xs ys : List PlainRow) (b : Bodies) → ((t : ℕ) → t < length g.tasks → view g l xs t ≡ view g m ys t) → AreBodies g l xs b → AreBodies g m ys b
same_bodies g l m xs ys b same are = record {
  returned = λ t. are.returned t ∙ seen t (λ w. may none is_return w (body g t));
  thrown = λ t. are.thrown t ∙ seen t (λ w. may none is_throw w (body g t));
  acknowledged = λ t. are.acknowledged t ∙ seen t (λ w. may none is_acknowledgement w (body g t));
  started = λ p c m. are.started p c m ∙ seen p (λ w. reaches c w (body g p));
}
  where
    seen : (t : ℕ) (test : Known → Bool) → (nat_lt t (length g.tasks) && test (view g l xs t)) ≡ (nat_lt t (length g.tasks) && test (view g m ys t))
    seen t test = elim (cases_lt t (length g.tasks)) [
      | inl lt ↦ ap (λ w. nat_lt t (length g.tasks) && test w) (same t lt)
      | inr le ↦
          let past : nat_lt t (length g.tasks) ≡ false = grind arith in
          ap (λ z. z && test (view g l xs t)) past ∙ sym (ap (λ z. z && test (view g m ys t)) past)
    ]
