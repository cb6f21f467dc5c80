-- By the rules without tokens a row says nothing of tokens.
use Rattle.std.proofs.Common.{◌≡◌, ℕ, List, [], true, false, Option, Some, None, Ordering, Less, Equal, Greater, nat_cmp, refl, sym, ap, subst, ◌∙◌, true≢false}
use Rattle.std.specs.Cmp.Lexicographic.{slice_cmp}
use Rattle.std.specs.Ordering.{match_ordering}
use Rattle.serde_json.specs.Data.{Data, Members, no_members, member, null, boolean, number, string, array, object}
use Rattle.serde_json.specs.Find.{get, get_member}
use Rattle.tpl_model.proofs.Truths.{and_first, and_second}
use Rattle.tpl_model.specs.declared.rule_set.RuleSet.{RuleSet}
use Rattle.tpl_model.specs.declared.rule_set.RuleSet.TheVariants.{WithoutTokens}
use Rattle.tpl_json.specs.Members.{is_one_of, members_within, has_only, list_or_none, each, texts_in}
use Rattle.tpl_json.proofs.DataOf.{keys_same}
use Rattle.tpl_cert.specs.Reading.{row_names}

-- ---- what an object with no other members lacks

lacks_by : (o : Ordering) (names : List (List ℕ)) (key l : List ℕ) (d : Data) (r : Option Data) → slice_cmp nat_cmp key l ≡ o → is_one_of names l ≡ true → is_one_of names key ≡ false → r ≡ None → match_ordering o r (Some d) r ≡ None
lacks_by Less names key l d r is one other rest = rest
lacks_by Equal names key l d r is one other rest = absurd (true≢false (sym one ∙ ap (is_one_of names) (sym (keys_same key l is)) ∙ other))
lacks_by Greater names key l d r is one other rest = rest

lacks_member : (names : List (List ℕ)) (key : List ℕ) (ms : Members) → members_within names ms ≡ true → is_one_of names key ≡ false → get_member key ms ≡ None
lacks_member names key no_members within other = refl
lacks_member names key (member l d ms) within other =
    lacks_by (slice_cmp nat_cmp key l) names key l d (get_member key ms) refl (and_first (is_one_of names l) (members_within names ms) within) other
    (lacks_member names key ms (and_second (is_one_of names l) (members_within names ms) within) other)

lacks : (names : List (List ℕ)) (key : List ℕ) (d : Data) → has_only names d ≡ true → is_one_of names key ≡ false → get key d ≡ None
unfolding has_only
lacks names key null only other = refl
lacks names key (boolean b) only other = refl
lacks names key (number n) only other = refl
lacks names key (string s) only other = refl
lacks names key (array ds) only other = refl
lacks names key (object ms) only other = lacks_member names key ms only other

pub nothing_named : (name : List ℕ) (d : Data) → get name d ≡ None → texts_in name d ≡ Some []
unfolding texts_in list_or_none each
nothing_named name d none = rw none refl

-- a row of the rules without tokens has no such member
pub row_lacks : (rules : RuleSet) (names : List (List ℕ)) (key : List ℕ) (d : Data) → names ≡ row_names rules → true ≡ has_only names d → is_one_of (row_names WithoutTokens) key ≡ false → rules ≡ WithoutTokens → get key d ≡ None
row_lacks rules names key d are only other narrow = lacks (row_names WithoutTokens) key d (subst (λ ns. has_only ns d ≡ true) (are ∙ ap row_names narrow) (sym only)) other
