-- What the pass that drains a queue knows in the end.
use Rattle.std.proofs.Common.{◌≡◌, ℕ, ◌+◌, ◌^◌, List, [], ◌∷◌, ◌++◌, length, sym, arith, refl, append-nil, append_assoc, ap, ◌∙◌}
use Rattle.tpl_items.specs.declared.rule.Tally.{Tally}
use Rattle.tpl_items.specs.Tally.{weigh, tally, after_take, IsWhole, IsUnsplit, Accounts}
use Rattle.tpl_items.proofs.Shares.{weigh-append}

-- the pass, once it took the tasks `drained` as well
abbrev pub after_all : Tally → List ℕ → Tally
after_all v drained = tally v.parts v.halvings v.put (v.taken ++ drained)

-- the pass, once it took one more
pub one_drained : (v w new : Tally) (drained : List ℕ) (t : ℕ) → w ≡ after_all v drained → new ≡ after_take w t → new ≡ after_all v (drained ++ t ∷ [])
one_drained v w new drained t so_far taken =
    taken
    ∙ (ap (λ u. after_take u t) so_far
    ∙ ap (λ l. tally v.parts v.halvings v.put l) (append_assoc v.taken drained (t ∷ [])))

weigh-ones : (xs : List ℕ) → weigh (λ _. 1) xs ≡ length xs
weigh-ones [] = refl
weigh-ones (x ∷ xs) = let s = weigh-ones xs in omega arith

-- once nothing is left, the pass accounts for what was drained
pub all_drained : (v : Tally) (drained left : List ℕ) → length left ≡ 0 → Accounts (after_all v drained) left → Accounts v drained
all_drained v drained (x ∷ xs) none knows = absurd (omega arith)
all_drained v drained [] none knows =
    record {
      counted = λ whole h. let q : weigh h v.put ≡ weigh h (v.taken ++ drained) + 0 = knows.counted whole h in omega (arith, q, weigh-append h v.taken drained);
      ordered = λ unsplit. knows.ordered unsplit ∙ append-nil (v.taken ++ drained);
    }

-- where as many were drained as there were, and the pass is the whole one, nothing is left
pub none_left : (v : Tally) (first drained left : List ℕ) → IsWhole v → Accounts v first → Accounts (after_all v drained) left → length drained ≡ length first → length left ≡ 0
none_left v first drained left whole before after same =
    let a = before.counted whole (λ _. 1) in
    let b = after.counted whole (λ _. 1) in
    let c = weigh-append (λ _. 1) v.taken drained in
    let d = weigh-ones first in
    let e = weigh-ones drained in
    let f = weigh-ones left in
    omega arith

-- and so the pass accounts for what was drained, also if it is not the whole one
pub as_many_drained : (v : Tally) (first drained left : List ℕ) → Accounts v first → Accounts (after_all v drained) left → length drained ≡ length first → Accounts v drained
as_many_drained v first drained left before after same =
    record {
      counted = λ whole. (all_drained v drained left (none_left v first drained left whole before after same) after).counted whole;
      ordered = λ unsplit. (all_drained v drained left (none_left v first drained left (whole_of unsplit) before after same) after).ordered unsplit;
    }
  where
    whole_of : IsUnsplit v → IsWhole v
    whole_of unsplit = unsplit.0 ∙ ap (λ k. 2 ^ k) (sym unsplit.1)
