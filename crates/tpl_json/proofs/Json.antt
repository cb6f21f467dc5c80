-- JSON values: what stands in them, and how deep they nest.
use Rattle.std.proofs.Common.{◌≡◌, ℕ, zero, suc, ◌<◌, ◌≤◌, List, [], ◌∷◌, map, Bool, true, false, Option, Some, None, Ordering, Less, Equal, Greater, nat_cmp, refl, subst, arith}
use Rattle.std.specs.Cmp.Lexicographic.{slice_cmp}
use Rattle.std.specs.Ordering.{match_ordering}
use Rattle.serde_json.specs.Data.{Data, Members, no_members, member, null, boolean, number, string, array, object, depth, members_depth}
use Rattle.serde_json.specs.Find.{get, get_member, as_str}
use Rattle.tpl_json.specs.Members.{only_if, each}
use Rattle.tpl_json.proofs.Arrays.{some_is, each_cons, each_empty}

abbrev pub some : {A : Type 0} → A → Option A
some x = Some x

pub only_is : (b : Bool) (u : Unit {0}) → only_if b ≡ Some u → b ≡ true
only_is true u e = refl
only_is false u e = absurd cc

pub some_none : {A : Type 0} (x : A) (o : Option A) → o ≡ Some x → o ≡ None → ⊥
some_none x o e f = absurd cc

-- ---- arrays of texts

pub cons_same : {A : Type 0} (x y : A) (xs ys : List A) → x ≡ y → xs ≡ ys → x ∷ xs ≡ y ∷ ys
cons_same x y xs ys e f = rw (e, f) refl

pub texts_read : (ts : List (List ℕ)) → each as_str (map string ts) ≡ Some ts
texts_read [] = each_empty as_str
texts_read (t ∷ ts) = each_cons as_str (string t) (map string ts) t ts refl (texts_read ts)

-- ---- depths

match_depth : (o : Ordering) (r : Option Data) (e x : Data) (n : ℕ) → match_ordering o r (Some e) r ≡ Some x → (r ≡ Some x → depth x ≤ n) → depth e ≤ n → depth x ≤ n
match_depth Less r e x n h k le = k h
match_depth Equal r e x n h k le = subst (λ (y : Data). depth y ≤ n) (some_is e x h) le
match_depth Greater r e x n h k le = k h

member_depth : (k : List ℕ) (ms : Members) (x : Data) (n : ℕ) → members_depth ms ≤ n → get_member k ms ≡ Some x → depth x ≤ n
member_depth k no_members x n le h = absurd cc
member_depth k (member l e ms) x n le h = match_depth (slice_cmp nat_cmp k l) (get_member k ms) e x n h (λ g. member_depth k ms x n (omega arith) g) (omega arith)

-- a member nests less than its object
pub get_depth : (k : List ℕ) (d x : Data) (n : ℕ) → depth d ≤ suc n → get k d ≡ Some x → depth x ≤ n
get_depth k null x n le h = absurd cc
get_depth k (boolean b) x n le h = absurd cc
get_depth k (number b) x n le h = absurd cc
get_depth k (string b) x n le h = absurd cc
get_depth k (array b) x n le h = absurd cc
get_depth k (object ms) x n le h = member_depth k ms x n (omega arith) h

-- and what has members nests
pub no_member : (k : List ℕ) (d x : Data) → depth d ≤ 0 → get k d ≡ Some x → ⊥
no_member k null x le h = cc
no_member k (boolean b) x le h = cc
no_member k (number b) x le h = cc
no_member k (string b) x le h = cc
no_member k (array b) x le h = cc
no_member k (object ms) x le h = omega arith

lower_by : (n : ℕ) (k : List ℕ) (d x : Data) → depth d ≡ n → get k d ≡ Some x → depth x < depth d
lower_by zero k d x e h = absurd (no_member k d x (omega arith) h)
lower_by (suc n) k d x e h =
    let le : depth x ≤ n = get_depth k d x n (omega arith) h in
    omega arith

pub member_lower : (k : List ℕ) (d x : Data) → get k d ≡ Some x → depth x < depth d
member_lower k d x h = lower_by (depth d) k d x refl h
