-- An object without a member.
use Rattle.std.proofs.Common.{◌≡◌, ℕ, ◌≤◌, List, [], ◌∷◌, Bool, true, false, cond, Option, Some, None, option_map, String, Global, Ordering, Less, Equal, Greater, string_bytes, nat_cmp, is_eq, refl, sym, ap, ◌∙◌, arith}
use Rattle.std.specs.BTreeMap.{is_at}
use Rattle.std.specs.Cmp.Lexicographic.{slice_cmp}
use Rattle.std.specs.Map.{lookup, remove_entry}
use Rattle.std.specs.Ordering.{match_ordering}
use Rattle.std.specs.Str.{bytes_eq}
use Rattle.std.proofs.lemmas.Map.Text.{is_eq-slice_cmp}
use Rattle.std.proofs.lemmas.Slice.Eq.{bytes_eq-Decides}
use Rattle.std.proofs.lemmas.Bool.{and_from}
use Rattle.tpl_model.proofs.Truths.{and_first, and_second}
use Rattle.serde_json.specs.declared.value.Value.{Value}
use Rattle.serde_json.specs.Data.{Data, Members, no_members, member, object, members_depth}
use Rattle.serde_json.specs.Find.{get_member}
use Rattle.serde_json.specs.View.{view, members_view}
use Rattle.serde_json.proofs.Views.{view-lookup}
use Rattle.tpl_json.specs.Members.{is_one_of, members_within, has_only}
use Rattle.tpl_verify.specs.Filled.{without}

-- ---- another member is as it was

skip : (o : Ordering) (r : Option Data) (e : Data) → is_eq o ≡ false → match_ordering o r (Some e) r ≡ r
skip Less r e h = refl
skip Equal r e h = absurd cc
skip Greater r e h = refl

other_by : (name k l : List ℕ) (e : Data) (ms rest : Members) (b : Bool) → bytes_eq k l ≡ b → bytes_eq name k ≡ false → get_member name ms ≡ get_member name rest → get_member name (member l e ms) ≡ get_member name (cond b ms (member l e rest))
other_by name k l e ms rest true is apart same =
    let here : k ≡ l = (bytes_eq-Decides k l).0 is in
    skip (slice_cmp nat_cmp name l) (get_member name ms) e (is_eq-slice_cmp name l ∙ ap (bytes_eq name) (sym here) ∙ apart)
other_by name k l e ms rest false is apart same = ap (λ (r : Option Data). match_ordering (slice_cmp nat_cmp name l) r (Some e) r) same

pub other_without : (name k : List ℕ) (ms : Members) → bytes_eq name k ≡ false → get_member name ms ≡ get_member name (without k ms)
other_without name k no_members apart = refl
other_without name k (member l e ms) apart = other_by name k l e ms (without k ms) (bytes_eq k l) refl apart (other_without name k ms apart)

-- ---- its names

within_by : (names : List (List ℕ)) (l : List ℕ) (e : Data) (ms rest : Members) (b : Bool) → is_one_of names l ≡ true → members_within names ms ≡ true → members_within names rest ≡ true → members_within names (cond b ms (member l e rest)) ≡ true
within_by names l e ms rest true one all less = all
within_by names l e ms rest false one all less = and_from (is_one_of names l) (members_within names rest) one less

within_without : (names : List (List ℕ)) (k : List ℕ) (ms : Members) → members_within names ms ≡ true → members_within names (without k ms) ≡ true
within_without names k no_members all = all
within_without names k (member l e ms) all =
    let rest = and_second (is_one_of names l) (members_within names ms) all in
    within_by names l e ms (without k ms) (bytes_eq k l) (and_first (is_one_of names l) (members_within names ms) all) rest (within_without names k ms rest)

pub only_without : (names : List (List ℕ)) (k : List ℕ) (ms : Members) → has_only names (object ms) ≡ true → has_only names (object (without k ms)) ≡ true
unfolding has_only
only_without names k ms all = within_without names k ms all

-- ---- how deep it nests

depth_by : (l : List ℕ) (e : Data) (ms rest : Members) (n : ℕ) (b : Bool) → members_depth (member l e ms) ≤ n → members_depth rest ≤ n → members_depth (cond b ms (member l e rest)) ≤ n
depth_by l e ms rest n true whole less = omega arith
depth_by l e ms rest n false whole less = omega arith

pub depth_without : (k : List ℕ) (ms : Members) (n : ℕ) → members_depth ms ≤ n → members_depth (without k ms) ≤ n
depth_without k no_members n le = le
depth_without k (member l e ms) n le = depth_by l e ms (without k ms) n (bytes_eq k l) le (depth_without k ms n (omega arith))

-- ---- a map without an entry

abbrev pub Entry : Type 0
Entry = String Global × Value

abbrev pub compared : List ℕ → String Global → Ordering
compared k s = slice_cmp nat_cmp k (string_bytes s)

view_by : (e : Entry) (es rest : List Entry) (ms : Members) (a b : Bool) → a ≡ b → members_view rest ≡ ms → members_view (cond a es (e ∷ rest)) ≡ cond b (members_view es) (member (string_bytes e.0) (view e.1) ms)
view_by e es rest ms true true same is = refl
view_by e es rest ms true false same is = absurd cc
view_by e es rest ms false true same is = absurd cc
view_by e es rest ms false false same is = ap (λ (x : Members). member (string_bytes e.0) (view e.1) x) is

pub view_without : (k : List ℕ) (es : List Entry) → members_view (remove_entry (is_at (compared k)) es) ≡ without k (members_view es)
view_without k [] = refl
view_without k (e ∷ es) = view_by e es (remove_entry (is_at (compared k)) es) (without k (members_view es)) (is_at (compared k) e.0) (bytes_eq k (string_bytes e.0)) (is_eq-slice_cmp k (string_bytes e.0)) (view_without k es)

-- what is no longer found
pub none_found : (k : List ℕ) (es : List Entry) → lookup (is_at (compared k)) es ≡ None → get_member k (members_view es) ≡ None
none_found k es none = sym (view-lookup k es) ∙ ap (option_map view) none
