-- Each step on the queue keeps its rule.
use Rattle.std.proofs.Common.{◌≡◌, ◌≢◌, ⊎_elim, ℕ, ◌+◌, ◌*◌, ◌^◌, ◌-◌, ◌≤◌, ◌<◌, List, [], ◌∷◌, ◌++◌, set, refl, sym, ap, subst, ◌∙◌, arith, append_assoc, append-nil}
use mathlib.Core.Option.{some, some-ne-none}
use lib.ListN.{get_elem?}
use Rattle.atomic_table.proofs.Lists.{at_set}
use Rattle.tpl_items.specs.declared.rule.Tally.{Tally}
use Rattle.tpl_items.specs.Tally.{weigh, tally, new_tally, after_put, after_take, first_half, second_half, both, IsUnsplit, Accounts}
use Rattle.tpl_items.specs.Balance.{Each, share, IsEmptyIfSpent, IsInOrder, IsBalanced}
use Rattle.tpl_items.proofs.Shares.{weigh-append, total-set, total-snoc, each_set, each_snoc, share-more, whole-more, share_pos, share-spent, two_shares, share-whole, whole_has_all, share-both, both_live}

-- while a pass has a share, no other is the whole one
not_unsplit : (tasks : List ℕ) (views : List Tally) (p q : ℕ) (v u : Tally) → IsBalanced tasks views → get_elem? views p ≡ some v → 0 < v.parts → get_elem? views q ≡ some u → q ≢ p → IsUnsplit u → ⊥
not_unsplit tasks views p q v u b at live there apart unsplit =
    let n = b.most in
    let all : share n u ≡ 2 ^ n = ap (λ k. k * 2 ^ (n - u.halvings)) unsplit.0 ∙ ap (λ m. 1 * 2 ^ m) (unhalved unsplit.1) ∙ omega arith in
    let some_share = share_pos n v live in
    let two = two_shares n views p q v u at there apart in
    let whole = b.whole in
    omega arith
  where
    unhalved : u.halvings ≡ 0 → b.most - u.halvings ≡ b.most
    unhalved z = omega arith

-- a step of a pass with a share keeps the order, if it keeps that of this pass
in_order : (tasks tasks' : List ℕ) (views : List Tally) (p : ℕ) (v w : Tally) → IsBalanced tasks views → get_elem? views p ≡ some v → 0 < v.parts → IsInOrder tasks' w → Each (IsInOrder tasks') (set views p w)
in_order tasks tasks' views p v w b at live here q u there =
    ⊎_elim (λ (t : (q ≡ p) × (w ≡ u)). subst (IsInOrder tasks') t.1 here)
    (λ (t : (q ≢ p) × (get_elem? views q ≡ some u)) unsplit. absurd (not_unsplit tasks views p q v u b at live t.1 t.0 unsplit))
    (at_set views p q w u there)

-- a queue that is new
pub new_is_balanced : IsBalanced [] (new_tally ∷ [])
new_is_balanced =
    record {
      most = 0;
      halved = each_one (λ v. v.halvings ≤ 0) (omega arith);
      whole = refl;
      spent = each_one IsEmptyIfSpent (λ none. (refl, refl));
      counted = λ h. refl;
      ordered = each_one (IsInOrder []) (λ unsplit. refl);
    }
  where
    each_one : (P : Tally → Type 0) → P new_tally → Each P (new_tally ∷ [])
    each_one P here = each_snoc P [] new_tally here (λ q u at. absurd (some-ne-none u (sym at)))

pub knows : (tasks : List ℕ) (views : List Tally) (p : ℕ) (v : Tally) → IsBalanced tasks views → get_elem? views p ≡ some v → Accounts v tasks
knows tasks views p v b at =
    record {
      counted = λ whole h.
          let n = b.most in
          let all = b.whole ∙ sym (share-whole n v (b.halved p v at) whole) in
          let r = whole_has_all n views p v at all b.spent h in
          let q = b.counted h in
          omega arith;
      ordered = b.ordered p v at;
    }

-- a step of a pass with a share after which it has put and taken these, and the queue holds other tasks
moves : (tasks tasks' : List ℕ) (views : List Tally) (p : ℕ) (v : Tally) (put taken : List ℕ) → 0 < v.parts → IsBalanced tasks views → get_elem? views p ≡ some v
    → ((h : ℕ → ℕ) → weigh h put + weigh h v.taken + weigh h tasks ≡ weigh h v.put + weigh h taken + weigh h tasks') → (IsUnsplit v → put ≡ taken ++ tasks')
    → IsBalanced tasks' (set views p (tally v.parts v.halvings put taken))
moves tasks tasks' views p v put taken live b at even order =
    let w = tally v.parts v.halvings put taken in
    let n = b.most in
    record {
      most = n;
      halved = each_set (λ u. u.halvings ≤ n) views p w (b.halved p v at) b.halved;
      whole = let s = total-set (share n) views p v w at in let q = b.whole in omega arith;
      spent = each_set IsEmptyIfSpent views p w (λ none. absurd (omega arith)) b.spent;
      counted = λ h.
          let s = total-set (λ u. weigh h u.put) views p v w at in
          let s' = total-set (λ u. weigh h u.taken) views p v w at in
          let q = b.counted h in
          let e = even h in
          omega arith;
      ordered = in_order tasks tasks' views p v w b at live order;
    }

pub puts : (tasks : List ℕ) (views : List Tally) (p : ℕ) (v : Tally) (t : ℕ) → 0 < v.parts → IsBalanced tasks views → get_elem? views p ≡ some v → IsBalanced (tasks ++ t ∷ []) (set views p (after_put v t))
puts tasks views p v t live b at =
    moves tasks (tasks ++ t ∷ []) views p v (v.put ++ t ∷ []) v.taken live b at (λ h. omega (arith, weigh-append h v.put (t ∷ []), weigh-append h tasks (t ∷ [])))
    (λ unsplit. ap (λ xs. xs ++ t ∷ []) (b.ordered p v at unsplit) ∙ append_assoc v.taken tasks (t ∷ []))

pub takes : (tasks : List ℕ) (views : List Tally) (p : ℕ) (v : Tally) (t : ℕ) → 0 < v.parts → IsBalanced (t ∷ tasks) views → get_elem? views p ≡ some v → IsBalanced tasks (set views p (after_take v t))
takes tasks views p v t live b at =
    moves (t ∷ tasks) tasks views p v v.put (v.taken ++ t ∷ []) live b at (λ h. omega (arith, weigh-append h v.taken (t ∷ [])))
    (λ unsplit. b.ordered p v at unsplit ∙ sym (append_assoc v.taken (t ∷ []) tasks))

pub forks : (tasks : List ℕ) (views : List Tally) (p : ℕ) (v : Tally) → 0 < v.parts → IsBalanced tasks views → get_elem? views p ≡ some v → IsBalanced tasks (set views p (first_half v) ++ second_half v ∷ [])
forks tasks views p v live b at =
    let l = first_half v in
    let r = second_half v in
    let n = b.most in
    let vs = set views p l in
    let up = b.halved p v at in
    let e : (n + 1) - (v.halvings + 1) ≡ n - v.halvings = omega arith in
    let half : v.parts * 2 ^ ((n + 1) - (v.halvings + 1)) ≡ share n v = ap (λ m. v.parts * 2 ^ m) e in
    let twice : share (n + 1) v ≡ share n v * 2 = share-more n 1 v up in
    record {
      most = n + 1;
      halved = each_snoc (λ u. u.halvings ≤ n + 1) vs r (omega arith) (each_set (λ u. u.halvings ≤ n + 1) views p l (omega arith) (λ q u there. let le = b.halved q u there in omega arith));
      whole =
          let s = total-set (share (n + 1)) views p v l at in
          let s' = total-snoc (share (n + 1)) vs r in
          let q = whole-more n 1 views b.halved b.whole in
          omega arith;
      spent = each_snoc IsEmptyIfSpent vs r (λ none. (refl, refl)) (each_set IsEmptyIfSpent views p l (λ none. absurd (omega arith)) b.spent);
      counted = λ h.
          let s = total-set (λ u. weigh h u.put) views p v l at in
          let t = total-set (λ u. weigh h u.taken) views p v l at in
          let s' = total-snoc (λ u. weigh h u.put) vs r in
          let t' = total-snoc (λ u. weigh h u.taken) vs r in
          let q = b.counted h in
          omega arith;
      ordered = each_snoc (IsInOrder tasks) vs r (λ unsplit. absurd (let z = unsplit.1 in omega arith)) (in_order tasks tasks views p v l b at live (λ unsplit. absurd (let z = unsplit.1 in omega arith)));
    }

-- where both together were never split, the first has all
both_in_order : (tasks : List ℕ) (v w : Tally) → 0 < v.parts → IsEmptyIfSpent w → IsInOrder tasks v → IsInOrder tasks (both v w)
both_in_order tasks v w live spent ordered unsplit =
    let z = unsplit.1 in
    let hv : v.halvings ≡ 0 = omega arith in
    let hw : w.halvings ≡ 0 = omega arith in
    let sum : v.parts * 1 + w.parts * 1 ≡ 1 = sym (λ i. v.parts * 2 ^ (hw i) + w.parts * 2 ^ (hv i)) ∙ unsplit.0 in
    let empty = spent (omega arith) in
    ap (λ xs. v.put ++ xs) empty.0 ∙ append-nil v.put ∙ ordered (omega arith, hv) ∙ ap (λ xs. xs ++ tasks) (sym (append-nil v.taken) ∙ ap (λ xs. v.taken ++ xs) (sym empty.1))

pub merges : (tasks : List ℕ) (views : List Tally) (p : ℕ) (v : Tally) (other : ℕ) (w : Tally) → 0 < v.parts → IsBalanced tasks views → get_elem? views p ≡ some v
    → other ≢ p → get_elem? (set views p (both v w)) other ≡ some w → IsBalanced tasks (set (set views p (both v w)) other (tally 0 0 [] []))
merges tasks views p v other w live b at apart there =
    let sum = both v w in
    let spent = tally 0 0 [] [] in
    let n = b.most in
    let k = v.halvings + w.halvings in
    let vs = set views p sum in
    let was : get_elem? views other ≡ some w = ⊎_elim (λ (t : (other ≡ p) × (sum ≡ w)). absurd (apart t.0)) (λ (t : (other ≢ p) × (get_elem? views other ≡ some w)). t.1) (at_set views p other sum w there) in
    let upv = b.halved p v at in
    let upw = b.halved other w was in
    record {
      most = n + k;
      halved = each_set (λ u. u.halvings ≤ n + k) vs other spent (omega arith) (each_set (λ u. u.halvings ≤ n + k) views p sum (omega arith) (λ q u found. let le = b.halved q u found in omega arith));
      whole =
          let s = total-set (share (n + k)) views p v sum at in
          let t = total-set (share (n + k)) vs other w spent there in
          let z = share-spent (n + k) in
          let pb = share-both n v w upv upw in
          let q = whole-more n k views b.halved b.whole in
          omega arith;
      spent = each_set IsEmptyIfSpent vs other spent (λ none. (refl, refl)) (each_set IsEmptyIfSpent views p sum (λ none. absurd (let l = both_live v w live in omega arith)) b.spent);
      counted = λ h.
          let s = total-set (λ u. weigh h u.put) views p v sum at in
          let t = total-set (λ u. weigh h u.taken) views p v sum at in
          let s' = total-set (λ u. weigh h u.put) vs other w spent there in
          let t' = total-set (λ u. weigh h u.taken) vs other w spent there in
          let q = weigh-append h v.put w.put in
          let r = weigh-append h v.taken w.taken in
          let e = b.counted h in
          omega arith;
      ordered = each_set (IsInOrder tasks) vs other spent (λ unsplit. absurd (let z = unsplit.0 in omega arith)) (in_order tasks tasks views p v sum b at live (both_in_order tasks v w live (b.spent other w was) (b.ordered p v at)));
    }
