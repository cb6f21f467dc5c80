-- The shares of passes, added up.
use Rattle.std.proofs.Common.{◌≡◌, ◌≢◌, ℕ, zero, suc, ◌+◌, ◌*◌, ◌^◌, ◌-◌, ◌≤◌, ◌<◌, List, [], ◌∷◌, ◌++◌, set, refl, sym, ap, subst, ◌∙◌, arith, ⊎_elim}
use Rattle.std.proofs.Math.Nat.{add-mul, mul_assoc, zero-mul, mul-pos}
use Rattle.std.proofs.lemmas.Nat.{pow_pos, pow-add}
use mathlib.Core.Option.{some, some-injective, some-ne-none}
use lib.ListN.{get_elem?}
use Rattle.atomic_table.proofs.Lists.{at_set, at_snoc, set_else}
use Rattle.tpl_items.specs.declared.rule.Tally.{Tally}
use Rattle.tpl_items.specs.Tally.{weigh, tally, both, IsWhole}
use Rattle.tpl_items.specs.Balance.{total, Each, share, IsEmptyIfSpent}

pub weigh-append : (h : ℕ → ℕ) (xs ys : List ℕ) → weigh h (xs ++ ys) ≡ weigh h xs + weigh h ys
weigh-append h [] ys = omega arith
weigh-append h (x ∷ xs) ys = omega (arith, weigh-append h xs ys)

-- the total after a change of one
pub total-set : (f : Tally → ℕ) (views : List Tally) (place : ℕ) (v w : Tally) → get_elem? views place ≡ some v → total f (set views place w) + f v ≡ total f views + f w
total-set f [] place v w at = absurd (some-ne-none v (sym at))
total-set f (x ∷ xs) zero v w at = let s : f x ≡ f v = ap f (some-injective x v at) in omega arith
total-set f (x ∷ xs) (suc place) v w at = let s = total-set f xs place v w at in omega arith

pub total-snoc : (f : Tally → ℕ) (views : List Tally) (w : Tally) → total f (views ++ w ∷ []) ≡ total f views + f w
total-snoc f [] w = omega arith
total-snoc f (x ∷ xs) w = let s = total-snoc f xs w in omega arith

-- each part is within the total
pub within_total : (f : Tally → ℕ) (views : List Tally) (place : ℕ) (v : Tally) → get_elem? views place ≡ some v → f v ≤ total f views
within_total f [] place v at = absurd (some-ne-none v (sym at))
within_total f (x ∷ xs) zero v at = let s : f x ≡ f v = ap f (some-injective x v at) in omega arith
within_total f (x ∷ xs) (suc place) v at = let s = within_total f xs place v at in omega arith

pub each_set : (P : Tally → Type 0) (views : List Tally) (place : ℕ) (w : Tally) → P w → Each P views → Each P (set views place w)
each_set P views place w here all q u at = ⊎_elim (λ (t : (q ≡ place) × (w ≡ u)). subst P t.1 here) (λ (t : (q ≢ place) × (get_elem? views q ≡ some u)). all q u t.1) (at_set views place q w u at)

pub each_snoc : (P : Tally → Type 0) (views : List Tally) (w : Tally) → P w → Each P views → Each P (views ++ w ∷ [])
each_snoc P views w here all q u at = ⊎_elim (λ (t : get_elem? views q ≡ some u). all q u t) (λ (t : w ≡ u). subst P t here) (at_snoc views w u q at)

pow_sum : (a b : ℕ) → 2 ^ (a + b) ≡ 2 ^ a * 2 ^ b
pow_sum a b = pow-add 2 a b

-- the share, where the whole is 2 ^ k times as much
pub share-more : (n k : ℕ) (v : Tally) → v.halvings ≤ n → share (n + k) v ≡ share n v * 2 ^ k
share-more n k v le =
    let e : (n + k) - v.halvings ≡ (n - v.halvings) + k = omega arith in
    ap (λ m. v.parts * 2 ^ m) e ∙ ap (λ m. v.parts * m) (pow_sum (n - v.halvings) k) ∙ sym (mul_assoc v.parts (2 ^ (n - v.halvings)) (2 ^ k))

pub total-more : (n k : ℕ) (views : List Tally) → Each (λ v. v.halvings ≤ n) views → total (share (n + k)) views ≡ total (share n) views * 2 ^ k
total-more n k [] all = sym (zero-mul (2 ^ k))
total-more n k (x ∷ xs) all =
    (λ i. share-more n k x (all 0 x refl) i + total-more n k xs (λ q u at. all (suc q) u at) i) ∙ sym (add-mul (share n x) (total (share n) xs) (2 ^ k))

-- all shares are still the whole, of 2 ^ (n + k)
pub whole-more : (n k : ℕ) (views : List Tally) → Each (λ v. v.halvings ≤ n) views → total (share n) views ≡ 2 ^ n → total (share (n + k)) views ≡ 2 ^ (n + k)
whole-more n k views all whole = total-more n k views all ∙ ap (λ m. m * 2 ^ k) whole ∙ sym (pow_sum n k)

pub share_pos : (n : ℕ) (v : Tally) → 0 < v.parts → 0 < share n v
share_pos n v live = mul-pos live (pow_pos (n - v.halvings))

-- a pass with no share has no parts
pub no_share : (n : ℕ) (v : Tally) → share n v ≡ 0 → v.parts ≡ 0
no_share n v none = zero_or v.parts none
  where
    zero_or : (k : ℕ) → k * 2 ^ (n - v.halvings) ≡ 0 → k ≡ 0
    zero_or zero e = refl
    zero_or (suc k) e = absurd (let p : 0 < suc k * 2 ^ (n - v.halvings) = mul-pos (omega arith) (pow_pos (n - v.halvings)) in omega arith)

pub share-spent : (n : ℕ) → share n (tally 0 0 [] []) ≡ 0
share-spent n = zero-mul (2 ^ (n - 0))

-- two passes share no part
pub two_shares : (n : ℕ) (views : List Tally) (p q : ℕ) (v u : Tally) → get_elem? views p ≡ some v → get_elem? views q ≡ some u → q ≢ p → share n v + share n u ≤ total (share n) views
two_shares n views p q v u at there apart =
    let none = tally 0 0 [] [] in
    let s = total-set (share n) views p v none at in
    let z = share-spent n in
    let w = within_total (share n) (set views p none) q u (set_else views p q none apart ∙ there) in
    omega arith

pub share-whole : (n : ℕ) (v : Tally) → v.halvings ≤ n → IsWhole v → share n v ≡ 2 ^ n
share-whole n v le whole = ap (λ k. k * 2 ^ (n - v.halvings)) whole ∙ sym (pow_sum v.halvings (n - v.halvings)) ∙ ap (λ k. 2 ^ k) (omega arith)

-- where all shares together are nothing, nothing was put and taken
none_at_all : (n : ℕ) (views : List Tally) → total (share n) views ≡ 0 → Each IsEmptyIfSpent views → (h : ℕ → ℕ) → (total (λ u. weigh h u.put) views ≡ 0) × (total (λ u. weigh h u.taken) views ≡ 0)
none_at_all n [] none spent h = (refl, refl)
none_at_all n (x ∷ xs) none spent h =
    let e = spent 0 x refl (no_share n x (omega arith)) in
    let r = none_at_all n xs (omega arith) (λ q u at. spent (suc q) u at) h in
    let p : weigh h x.put ≡ 0 = ap (weigh h) e.0 in
    let t : weigh h x.taken ≡ 0 = ap (weigh h) e.1 in
    (omega arith, omega arith)

-- the pass with the whole share has put and taken all
pub whole_has_all : (n : ℕ) (views : List Tally) (place : ℕ) (v : Tally) → get_elem? views place ≡ some v → total (share n) views ≡ share n v → Each IsEmptyIfSpent views
    → (h : ℕ → ℕ) → (total (λ u. weigh h u.put) views ≡ weigh h v.put) × (total (λ u. weigh h u.taken) views ≡ weigh h v.taken)
whole_has_all n [] place v at all spent h = absurd (some-ne-none v (sym at))
whole_has_all n (x ∷ xs) zero v at all spent h =
    let same = some-injective x v at in
    let s : share n x ≡ share n v = ap (share n) same in
    let r = none_at_all n xs (omega arith) (λ q u there. spent (suc q) u there) h in
    let p : weigh h x.put ≡ weigh h v.put = ap (λ (u : Tally). weigh h u.put) same in
    let t : weigh h x.taken ≡ weigh h v.taken = ap (λ (u : Tally). weigh h u.taken) same in
    (omega arith, omega arith)
whole_has_all n (x ∷ xs) (suc place) v at all spent h =
    let w = within_total (share n) xs place v at in
    let e = spent 0 x refl (no_share n x (omega arith)) in
    let r = whole_has_all n xs place v at (omega arith) (λ q u there. spent (suc q) u there) h in
    let p : weigh h x.put ≡ 0 = ap (weigh h) e.0 in
    let t : weigh h x.taken ≡ 0 = ap (weigh h) e.1 in
    (omega arith, omega arith)

-- the share of two passes together is that of both
pub share-both : (n : ℕ) (v w : Tally) → v.halvings ≤ n → w.halvings ≤ n
    → share (n + (v.halvings + w.halvings)) (both v w) ≡ share (n + (v.halvings + w.halvings)) v + share (n + (v.halvings + w.halvings)) w
share-both n v w a c =
    let e : (n + (v.halvings + w.halvings)) - (v.halvings + w.halvings) ≡ n = omega arith in
    let f : (n + (v.halvings + w.halvings)) - v.halvings ≡ w.halvings + n = omega arith in
    let g : (n + (v.halvings + w.halvings)) - w.halvings ≡ v.halvings + n = omega arith in
    ap (λ m. (v.parts * 2 ^ w.halvings + w.parts * 2 ^ v.halvings) * 2 ^ m) e
    ∙ add-mul (v.parts * 2 ^ w.halvings) (w.parts * 2 ^ v.halvings) (2 ^ n)
    ∙ (λ i. mul_assoc v.parts (2 ^ w.halvings) (2 ^ n) i + mul_assoc w.parts (2 ^ v.halvings) (2 ^ n) i)
    ∙ (λ i. v.parts * sym (pow_sum w.halvings n) i + w.parts * sym (pow_sum v.halvings n) i)
    ∙ sym (λ i. v.parts * 2 ^ (f i) + w.parts * 2 ^ (g i))

pub both_live : (v w : Tally) → 0 < v.parts → 0 < (both v w).parts
both_live v w live = let p : 0 < v.parts * 2 ^ w.halvings = mul-pos live (pow_pos w.halvings) in omega arith
