-- What paths have in common, joined in any order.
use Rattle.std.proofs.Common.{◌≡◌, ℕ, Bool, true, false, ◌&&◌, ◌||◌, Option, Some, None, refl, sym, ap, ◌∙◌}
use Rattle.std.proofs.Math.Path.{fun_ext}
use Rattle.tpl_model.proofs.Truths.{and_assoc}
use Rattle.tpl_model.specs.Knowledge.{Fact, Knowledge, meet, when, with_facts}

-- an equation for each part
pub same_knowledge : (a b : Knowledge) → ((k : ℕ) → a.requested k ≡ b.requested k) → ((f : Fact) → a.later f ≡ b.later f) → a ≡ b
same_knowledge a b e f =
    ap (λ r. let k : Knowledge = record { requested = r; later = a.later } in k) (fun_ext e)
    ∙ ap (λ l. let k : Knowledge = record { requested = b.requested; later = l } in k) (fun_ext f)

pub meet_none : (s : Option Knowledge) → meet s None ≡ s
meet_none None = refl
meet_none (Some a) = refl

pub meet_assoc : (a b c : Option Knowledge) → meet (meet a b) c ≡ meet a (meet b c)
meet_assoc None b c = refl
meet_assoc (Some x) None c = refl
meet_assoc (Some x) (Some y) None = refl
meet_assoc (Some x) (Some y) (Some z) = ap Some (same_knowledge _ _ (λ k. and_assoc (x.requested k) (y.requested k) (z.requested k)) (λ f. and_assoc (x.later f) (y.later f) (z.later f)))

and_turned : (a b : Bool) → (a && b) ≡ (b && a)
and_turned true true = refl
and_turned true false = refl
and_turned false true = refl
and_turned false false = refl

and_twice : (a : Bool) → (a && a) ≡ a
and_twice true = refl
and_twice false = refl

pub meet_turned : (a b : Option Knowledge) → meet a b ≡ meet b a
meet_turned None None = refl
meet_turned None (Some y) = refl
meet_turned (Some x) None = refl
meet_turned (Some x) (Some y) = ap Some (same_knowledge _ _ (λ k. and_turned (x.requested k) (y.requested k)) (λ f. and_turned (x.later f) (y.later f)))

pub meet_twice : (a : Option Knowledge) → meet a a ≡ a
meet_twice None = refl
meet_twice (Some x) = ap Some (same_knowledge _ _ (λ k. and_twice (x.requested k)) (λ f. and_twice (x.later f)))

pub when_meet : (p : Bool) (a b : Option Knowledge) → when p (meet a b) ≡ meet (when p a) (when p b)
when_meet true a b = refl
when_meet false a b = refl

or_and : (a x y : Bool) → (a || (x && y)) ≡ ((a || x) && (a || y))
or_and true x y = refl
or_and false x y = refl

pub with_facts_meet : (h : Fact → Bool) (a b : Option Knowledge) → with_facts h (meet a b) ≡ meet (with_facts h a) (with_facts h b)
with_facts_meet h None b = refl
with_facts_meet h (Some x) None = refl
with_facts_meet h (Some x) (Some y) = ap Some (same_knowledge _ _ (λ k. refl) (λ f. or_and (h f) (x.later f) (y.later f)))

-- others that were met before
pub meet_again : (a b : Option Knowledge) → meet b (meet a b) ≡ meet b a
meet_again a b = ap (meet b) (meet_turned a b) ∙ (sym (meet_assoc b b a) ∙ ap (λ s. meet s a) (meet_twice b))
