-- Names that stand twice, as a refusal of a draft.
use Rattle.std.proofs.Common.{◌≡◌, subst, ℕ, zero, suc, ◌<◌, Bool, true, false, ◌||◌, List, length, refl, sym, ap, ◌∙◌, arith}
use Rattle.std.proofs.lemmas.Option.{slice_get-map, slice_get_within}
use Rattle.std.specs.Option.{option_map}
use Rattle.std.specs.Prelude.{Option, Some, None, slice_get, take}
use Rattle.tpl_model.proofs.Truths.{or_true}
use Rattle.tpl_draft.specs.declared.fault.Why.TheVariants as why
use Rattle.tpl_draft.specs.Draft.{Draft, Task}
use Rattle.tpl_draft.specs.Names.{has_name, some_twice}
use Rattle.tpl_draft.specs.Twice.{IsTwiceAt, NoneTwiceBelow}
use Rattle.tpl_draft.specs.Numbered.{names_of}
use Rattle.tpl_draft.specs.Refusals.{applies, at_task, number, NoneBelow, Refuses}
use Rattle.tpl_draft.proofs.LeastLemmas.{least, none_below_next}

pub inputs_twice : (d : Draft) (names : List (List ℕ)) → names ≡ (names_of d).inputs → some_twice names ≡ true → NoneBelow d (number why.NameTwice) → Refuses d (record { why = why.NameTwice; at = 0 })
inputs_twice d names e twice before =
    least d why.NameTwice 0 refl before (ap (λ b. b || some_twice (names_of d).tokens) (sym (ap some_twice e) ∙ twice), λ m lt. absurd (omega arith))

pub tokens_twice : (d : Draft) (names : List (List ℕ)) → names ≡ (names_of d).tokens → some_twice names ≡ true → NoneBelow d (number why.NameTwice) → Refuses d (record { why = why.NameTwice; at = 0 })
tokens_twice d names e twice before =
    least d why.NameTwice 0 refl before
    (ap (λ b. some_twice (names_of d).inputs || b) (sym (ap some_twice e) ∙ twice) ∙ or_true (some_twice (names_of d).inputs), λ m lt. absurd (omega arith))

twice_at : (p : List ℕ → Bool) (o : Option Task) (name : List ℕ) → option_map (λ (t : Task). t.name) o ≡ Some name → at_task (λ x. p x.name) o ≡ p name
twice_at p None name e = absurd (cc)
twice_at p (Some x) name e = let same : x.name ≡ name = cc in ap p same

not_at : (p : List ℕ → Bool) (o : Option Task) → ((x : Task) → o ≡ Some x → p x.name ≡ true → ⊥) → at_task (λ x. p x.name) o ≡ false
not_at p None none = refl
not_at p (Some x) none = by (p x.name) (none x refl)
  where
    by : (b : Bool) → (b ≡ true → ⊥) → b ≡ false
    by true h = absurd (h refl)
    by false h = refl

none_at : (d : Draft) (j : ℕ) → (IsTwiceAt (names_of d).tasks j → ⊥) → applies d why.NameTwice (suc j) ≡ false
none_at d j none =
    not_at (has_name (take j (names_of d).tasks)) (slice_get d.tasks j)
    (λ x e twice. none (x.name, slice_get-map (λ (t : Task). t.name) d.tasks j ∙ ap (option_map (λ (t : Task). t.name)) e, twice))

in_lists_none : (d : Draft) → some_twice (names_of d).inputs ≡ false → some_twice (names_of d).tokens ≡ false → applies d why.NameTwice 0 ≡ false
in_lists_none d i k = ap (λ b. b || some_twice (names_of d).tokens) i ∙ k

pub tasks_twice : (d : Draft) (names : List (List ℕ)) (t n : ℕ) → names ≡ (names_of d).tasks → n ≡ suc t → some_twice (names_of d).inputs ≡ false → some_twice (names_of d).tokens ≡ false → IsTwiceAt names t → NoneTwiceBelow names t → NoneBelow d (number why.NameTwice) → Refuses d (record { why = why.NameTwice; at = n })
tasks_twice d names t n e next i k here below before =
    least d why.NameTwice n refl before (ap (applies d why.NameTwice) next ∙ at_t, earlier)
  where
    at_t : applies d why.NameTwice (suc t) ≡ true
    at_t =
        twice_at (has_name (take t (names_of d).tasks)) (slice_get d.tasks t) here.0
        (sym (slice_get-map (λ (x : Task). x.name) d.tasks t) ∙ (ap (λ l. slice_get l t) (sym e) ∙ here.1))
        ∙ (ap (λ l. has_name (take t l) here.0) (sym e) ∙ here.2)

    earlier : (m : ℕ) → m < n → applies d why.NameTwice m ≡ false
    earlier zero lt = in_lists_none d i k
    earlier (suc j) lt = none_at d j (λ twice. below j (omega arith) (subst (λ l. IsTwiceAt l j) (sym e) twice))

pub no_name_twice : (d : Draft) (names : List (List ℕ)) → names ≡ (names_of d).tasks → some_twice (names_of d).inputs ≡ false → some_twice (names_of d).tokens ≡ false → NoneTwiceBelow names (length names) → NoneBelow d (number why.NameTwice) → NoneBelow d (number why.Unknown)
no_name_twice d names e i k distinct before = none_below_next d why.NameTwice (number why.Unknown) refl before everywhere
  where
    everywhere : (at : ℕ) → applies d why.NameTwice at ≡ false
    everywhere zero = in_lists_none d i k
    everywhere (suc j) =
        none_at d j (λ twice.
        let here : IsTwiceAt names j = subst (λ l. IsTwiceAt l j) (sym e) twice in
        distinct j (slice_get_within names j here.0 here.1) here)
