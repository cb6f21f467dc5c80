-- An object with a member put into it.
use Rattle.std.proofs.Common.{◌≡◌, ℕ, ◌≤◌, List, true, false, Some, None, Ordering, Less, Equal, Greater, refl, sym, ap, ◌∙◌, arith, true≢false}
use Rattle.std.specs.Str.{bytes_eq}
use Rattle.std.specs.Cmp.Lexicographic.{slice_cmp}
use Rattle.std.specs.Ordering.{nat_cmp, match_ordering}
use Rattle.std.proofs.lemmas.Slice.Eq.{bytes_eq-Decides}
use Rattle.std.proofs.lemmas.Bool.{and_from}
use Rattle.tpl_model.proofs.Truths.{and_first, and_second}
use Rattle.serde_json.specs.Data.{Data, Members, no_members, member, null, boolean, number, string, array, object, put, depth, members_depth}
use Rattle.serde_json.specs.Find.{get, as_object}
use Rattle.serde_json.proofs.Views.{get_member-put_other}
use Rattle.tpl_json.specs.Members.{is_one_of, members_within, has_only}

-- ---- its names

within_either : (o : Ordering) (names : List (List ℕ)) (a b c : Members) → members_within names a ≡ true → members_within names b ≡ true → members_within names c ≡ true → members_within names (match_ordering o a b c) ≡ true
within_either Less names a b c x y z = x
within_either Equal names a b c x y z = y
within_either Greater names a b c x y z = z

within_put : (names : List (List ℕ)) (k : List ℕ) (d : Data) (ms : Members) → is_one_of names k ≡ true → members_within names ms ≡ true → members_within names (put k d ms) ≡ true
within_put names k d no_members one all = and_from (is_one_of names k) true one refl
within_put names k d (member l e ms) one all =
    let first = and_first (is_one_of names l) (members_within names ms) all in
    let rest = and_second (is_one_of names l) (members_within names ms) all in
    within_either (slice_cmp nat_cmp k l) names (member k d (member l e ms)) (member l d ms) (member l e (put k d ms))
    (and_from (is_one_of names k) _ one all) (and_from (is_one_of names l) _ first rest) (and_from (is_one_of names l) _ first (within_put names k d ms one rest))

pub only_put : (names : List (List ℕ)) (k : List ℕ) (d : Data) (ms : Members) → is_one_of names k ≡ true → has_only names (object ms) ≡ true → has_only names (object (put k d ms)) ≡ true
unfolding has_only
only_put names k d ms one all = within_put names k d ms one all

-- only an object has members
pub is_object : (names : List (List ℕ)) (d : Data) → has_only names d ≡ true → (ms : Members) × (d ≡ object ms)
unfolding has_only
is_object names null e = absurd cc
is_object names (boolean b) e = absurd cc
is_object names (number n) e = absurd cc
is_object names (string s) e = absurd cc
is_object names (array ds) e = absurd cc
is_object names (object ms) e = (ms, refl)

-- ---- its other members

differ : (a b : List ℕ) → bytes_eq a b ≡ false → a ≡ b → ⊥
differ a b apart same = true≢false (sym ((bytes_eq-Decides a b).1 same) ∙ apart)

-- another member is as it was
pub other : (name k : List ℕ) (d : Data) (ms : Members) → bytes_eq name k ≡ false → get name (object ms) ≡ get name (object (put k d ms))
other name k d ms apart = sym (get_member-put_other name k d ms (differ name k apart))

-- ---- how deep it nests

depth_either : (o : Ordering) (a b c : Members) (n : ℕ) → members_depth a ≤ n → members_depth b ≤ n → members_depth c ≤ n → members_depth (match_ordering o a b c) ≤ n
depth_either Less a b c n x y z = x
depth_either Equal a b c n x y z = y
depth_either Greater a b c n x y z = z

pub depth_put : (k : List ℕ) (d : Data) (ms : Members) (n : ℕ) → depth d ≤ n → members_depth ms ≤ n → members_depth (put k d ms) ≤ n
depth_put k d no_members n x y = omega arith
depth_put k d (member l e ms) n x y =
    depth_either (slice_cmp nat_cmp k l) (member k d (member l e ms)) (member l d ms) (member l e (put k d ms)) n
    (omega arith) (omega arith) (let rest = depth_put k d ms n x (omega arith) in omega arith)

-- ---- an object by its members

pub object_is : (d : Data) (ms : Members) → as_object d ≡ Some ms → d ≡ object ms
object_is null ms e = absurd cc
object_is (boolean b) ms e = absurd cc
object_is (number n) ms e = absurd cc
object_is (string s) ms e = absurd cc
object_is (array ds) ms e = absurd cc
object_is (object os) ms e = let same : os ≡ ms = cc in ap object same

pub object_has : (d : Data) (ms : Members) → d ≡ object ms → as_object d ≡ None → ⊥
object_has d ms e none = let some : as_object d ≡ Some ms = ap as_object e in absurd cc
