-- A value for each input, put into an object one after another.
use Rattle.std.proofs.Common.{◌≡◌, ℕ, ◌+◌, ◌<◌, ◌⊎◌, inl, inr, List, Bool, true, false, Some, Ordering, Less, Equal, Greater, length, is_some, refl, sym, ap, subst, ◌∙◌, arith}
use Rattle.std.proofs.lemmas.Bool.{cases_eq, lt-ltb, and_from}
use Rattle.std.specs.Prelude.{slice_index_or}
use Rattle.std.specs.Cmp.Lexicographic.{slice_cmp}
use Rattle.std.specs.Ordering.{nat_cmp, match_ordering}
use Rattle.tpl_model.proofs.Truths.{and_first, and_second}
use Rattle.serde_json.specs.Data.{Data, Members, no_members, member, boolean, put}
use Rattle.serde_json.specs.Find.{get_member}
use Rattle.serde_json.proofs.Views.{get_member-put, get_member-put_other}
use Rattle.tpl_draft.specs.Names.{some_twice}
use Rattle.tpl_cert.specs.Naming.{number_of, is_declared}
use Rattle.tpl_cert.specs.Written.{name_at}
use Rattle.tpl_cert.proofs.Unique.{number_of-name_at}
use Rattle.tpl_reader.specs.Begin.{declares}
use Rattle.tpl_parts.specs.Start.{all_values}
use Rattle.tpl_parts.proofs.Ends.{is_truth}
use Rattle.tpl_verify.specs.Filled.{AreFirst}
use Rattle.tpl_json.proofs.Puts.{depth_put}

declares_either : (o : Ordering) (names : List (List ℕ)) (a b c : Members) → declares names a ≡ true → declares names b ≡ true → declares names c ≡ true → declares names (match_ordering o a b c) ≡ true
declares_either Less names a b c x y z = x
declares_either Equal names a b c x y z = y
declares_either Greater names a b c x y z = z

declares_put : (names : List (List ℕ)) (k : List ℕ) (d : Data) (ms : Members) → is_declared names k ≡ true → declares names ms ≡ true → declares names (put k d ms) ≡ true
declares_put names k d no_members one all = and_from (is_declared names k) true one refl
declares_put names k d (member l e ms) one all =
    let first = and_first (is_declared names l) (declares names ms) all in
    let rest = and_second (is_declared names l) (declares names ms) all in
    declares_either (slice_cmp nat_cmp k l) names (member k d (member l e ms)) (member l d ms) (member l e (put k d ms))
    (and_from (is_declared names k) _ one all) (and_from (is_declared names l) _ first rest) (and_from (is_declared names l) _ first (declares_put names k d ms one rest))

truths_either : (o : Ordering) (a b c : Members) → all_values is_truth a ≡ true → all_values is_truth b ≡ true → all_values is_truth c ≡ true → all_values is_truth (match_ordering o a b c) ≡ true
truths_either Less a b c x y z = x
truths_either Equal a b c x y z = y
truths_either Greater a b c x y z = z

truths_put : (k : List ℕ) (value : Bool) (ms : Members) → all_values is_truth ms ≡ true → all_values is_truth (put k (boolean value) ms) ≡ true
truths_put k value no_members all = refl
truths_put k value (member l e ms) all =
    let rest = and_second (is_truth e) (all_values is_truth ms) all in
    truths_either (slice_cmp nat_cmp k l) (member k (boolean value) (member l e ms)) (member l (boolean value) ms) (member l e (put k (boolean value) ms)) all rest
    (and_from (is_truth e) _ (and_first (is_truth e) (all_values is_truth ms) all) (truths_put k value ms rest))

some_same : (a b : ℕ) → Some a ≡ Some b → a ≡ b
some_same a b e = cc

-- no two inputs have one name
names_apart : (names : List (List ℕ)) (i j : ℕ) → some_twice names ≡ false → i < length names → j < length names → (i ≡ j → ⊥) → name_at names i ≡ name_at names j → ⊥
names_apart names i j once below under apart same =
    apart (some_same i j
    (sym (number_of-name_at names once i (lt-ltb i (length names) below)) ∙ ap (number_of names) same ∙ number_of-name_at names once j (lt-ltb j (length names) under)))

pub none_yet : (names : List (List ℕ)) (values : List Bool) (ms : Members) → ms ≡ no_members → AreFirst names values 0 ms
none_yet names values ms e = subst (AreFirst names values 0) (sym e) (record {
  each = λ i lt. absurd (omega arith);
  declared = refl;
  truths = refl;
  flat = omega arith;
})

module _ (names : List (List ℕ)) (values : List Bool) (count : ℕ) (old : Members) (once : some_twice names ≡ false) (below : count < length names) (are : AreFirst names values count old) where
  abbrev name : List ℕ
  name = name_at names count

  abbrev value : Bool
  value = slice_index_or values count false

  each_of : (i : ℕ) → i < count + 1 → (i ≡ count) ⊎ (i ≡ count → ⊥) → get_member (name_at names i) (put name (boolean value) old) ≡ Some (boolean (slice_index_or values i false))
  each_of i lt (inl same) = rw same (get_member-put name (boolean value) old)
  each_of i lt (inr apart) =
      get_member-put_other (name_at names i) name (boolean value) old (names_apart names i count once (omega arith) below apart)
      ∙ are.each i (omega arith)

  pub one_more : (new : Members) → new ≡ put name (boolean value) old → AreFirst names values (count + 1) new
  one_more new e = subst (AreFirst names values (count + 1)) (sym e) (record {
    each = λ i lt. each_of i lt (cases_eq i count);
    declared = declares_put names name (boolean value) old (ap is_some (number_of-name_at names once count (lt-ltb count (length names) below))) are.declared;
    truths = truths_put name value old are.truths;
    flat = depth_put name (boolean value) old 0 (omega arith) are.flat;
  })
