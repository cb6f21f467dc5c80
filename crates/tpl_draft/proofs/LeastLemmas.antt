-- From the first place of each refusal to the least refusal.
use Rattle.std.proofs.Common.{◌≡◌, ℕ, zero, suc, ◌≤◌, true, false, refl, sym, ap, ◌∙◌, arith, ⊎_elim, inr}
use Rattle.std.proofs.lemmas.Bool.{cases_eq}
use Rattle.std.specs.Prelude.{Some}
use Rattle.tpl_draft.specs.declared.fault.OptionsFault.TheVariants.{ExcludesAll}
use Rattle.tpl_draft.specs.declared.fault.Why.{Why}
use Rattle.tpl_draft.specs.declared.fault.Why.TheVariants as why
use Rattle.tpl_draft.specs.declared.refusals.Test.{Test}
use Rattle.tpl_draft.specs.declared.refusals.Test.TheVariants as test
use Rattle.tpl_draft.specs.Draft.{Draft}
use Rattle.tpl_draft.specs.Test.{why_of}
use Rattle.tpl_draft.specs.Refusals.{applies, number, names_fault, NoneBelow, IsFirst, IsValid, Refuses}

abbrev why_at : ℕ → Why
why_at (suc zero) = why.TooMany
why_at (suc (suc zero)) = why.BadName
why_at (suc (suc (suc zero))) = why.NameTwice
why_at (suc (suc (suc (suc zero)))) = why.Unknown
why_at (suc (suc (suc (suc (suc zero))))) = why.NotEarlier
why_at (suc (suc (suc (suc (suc (suc zero)))))) = why.OfChild
why_at (suc (suc (suc (suc (suc (suc (suc zero))))))) = why.EmptyAny
why_at (suc (suc (suc (suc (suc (suc (suc (suc zero)))))))) = why.ChildPlace
why_at (suc (suc (suc (suc (suc (suc (suc (suc (suc zero))))))))) = why.SiteTwice
why_at (suc (suc (suc (suc (suc (suc (suc (suc (suc (suc zero)))))))))) = why.Option ExcludesAll
why_at (suc (suc (suc (suc (suc (suc (suc (suc (suc (suc (suc zero))))))))))) = why.ObserveNothing
why_at (suc (suc (suc (suc (suc (suc (suc (suc (suc (suc (suc (suc (suc n))))))))))))) = why.LinkPlace
why_at n = why.Memory

-- which fault of options is named makes no difference to where one applies
applies_at_number : (d : Draft) (w : Why) (at : ℕ) → applies d w at ≡ applies d (why_at (number w)) at
applies_at_number d (why.Option f) zero = refl
applies_at_number d (why.Option f) (suc t) = refl
applies_at_number d s at = refl

pub none_below_next : (d : Draft) (w : Why) (n : ℕ) → n ≡ suc (number w) → NoneBelow d (number w) → ((at : ℕ) → applies d w at ≡ false) → NoneBelow d n
none_below_next d w n e before here v at lt = ⊎_elim
    (λ same. applies_at_number d v at ∙ (ap (λ k. applies d (why_at k) at) same ∙ (sym (applies_at_number d w at) ∙ here at)))
    (λ apart. before v at (omega arith))
    (cases_eq (number v) (number w))

pub least : (d : Draft) (w : Why) (at : ℕ) → names_fault d w at ≡ true → NoneBelow d (number w) → IsFirst (applies d w) (Some at) → Refuses d (record { why = w; at = at })
least d w at named before first =
    inr (record { here = first.0; fault = named; least = λ v n lt. before v n lt; earliest = first.1 })

pub test_named : (d : Draft) (test : Test) (at : ℕ) → names_fault d (why_of test) at ≡ true
test_named d test.BadName at = refl
test_named d s at = refl

-- LinkPlace is the last of the refusals
within_last : (w : Why) → number w ≤ number why.LinkPlace
within_last why.TooMany = omega arith
within_last why.BadName = omega arith
within_last why.NameTwice = omega arith
within_last why.Unknown = omega arith
within_last why.NotEarlier = omega arith
within_last why.OfChild = omega arith
within_last why.EmptyAny = omega arith
within_last why.ChildPlace = omega arith
within_last why.SiteTwice = omega arith
within_last (why.Option f) = omega arith
within_last why.ObserveNothing = omega arith
within_last why.Memory = omega arith
within_last why.LinkPlace = omega arith

pub none_at_all : (d : Draft) → NoneBelow d (suc (number why.LinkPlace)) → IsValid d
none_at_all d none w at = none w at (let last = within_last w in omega arith)
