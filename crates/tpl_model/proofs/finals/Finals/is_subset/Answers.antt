use Rattle.std.proofs.Common.{◌≡◌, Bool, true, false, ◌&&◌, ◌||◌, refl, sym, ap, ◌∙◌}
use mathlib.Core.Bool.{beq}
use Rattle.tpl_model.specs.declared.finals.Final.{Final}
use Rattle.tpl_model.specs.declared.finals.Final.TheVariants.{RanToCompletion, Canceled, Faulted}
use Rattle.tpl_model.specs.declared.finals.Finals.{Finals}
use Rattle.tpl_model.specs.Finals.{has, IsPart}
use Rattle.tpl_model.proofs.finals.Finals.is_subset.Goals as goal

-- a set is part of another where both together are the other
kept : (a b : Bool) → beq (a || b) b ≡ true → a ≡ true → b ≡ true
kept true true e h = refl
kept true false e h = cc
kept false b e h = cc

joins : (a b : Bool) → (a ≡ true → b ≡ true) → beq (a || b) b ≡ true
joins true true h = refl
joins true false h = let e = h refl in cc
joins false true h = refl
joins false false h = refl

three : (a b c : Bool) → a && (b && c) ≡ true → (a ≡ true) × (b ≡ true) × (c ≡ true)
three true true c e = (refl, refl, e)
three true false c e = cc
three false b c e = cc

of_three : (a b c : Bool) → a ≡ true → b ≡ true → c ≡ true → a && (b && c) ≡ true
of_three true true c x y z = z
of_three true false c x y z = cc
of_three false b c x y z = cc

with : (s t u : Finals) → ((f : Final) → has u f ≡ (has s f || has t f)) → (f : Final) → beq (has u f) (has t f) ≡ beq (has s f || has t f) (has t f)
with s t u h f = ap (λ b. beq b (has t f)) (h f)

pub returns : goal.returns
returns c =
    let s = c.args.self.now in
    let t = c.args.other.now in
    let u = c.union.result in (
      λ e f h. part s t u c.union.ensures (sym c.eq.ensures ∙ e) f h,
      λ part. c.eq.ensures ∙ of_three (beq u.ran t.ran) (beq u.canceled t.canceled) (beq u.faulted t.faulted)
          (with s t u c.union.ensures RanToCompletion ∙ joins s.ran t.ran (part RanToCompletion))
          (with s t u c.union.ensures Canceled ∙ joins s.canceled t.canceled (part Canceled))
          (with s t u c.union.ensures Faulted ∙ joins s.faulted t.faulted (part Faulted)),
    )
  where
    part : (s t u : Finals) → ((f : Final) → has u f ≡ (has s f || has t f)) → beq u.ran t.ran && (beq u.canceled t.canceled && beq u.faulted t.faulted) ≡ true → IsPart s t
    part s t u h e RanToCompletion = kept s.ran t.ran (sym (with s t u h RanToCompletion) ∙ (three (beq u.ran t.ran) (beq u.canceled t.canceled) (beq u.faulted t.faulted) e).0)
    part s t u h e Canceled = kept s.canceled t.canceled (sym (with s t u h Canceled) ∙ (three (beq u.ran t.ran) (beq u.canceled t.canceled) (beq u.faulted t.faulted) e).1)
    part s t u h e Faulted = kept s.faulted t.faulted (sym (with s t u h Faulted) ∙ (three (beq u.ran t.ran) (beq u.canceled t.canceled) (beq u.faulted t.faulted) e).2)
