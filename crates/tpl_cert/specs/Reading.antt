-- The certificate tree with names that a JSON value is, `None` where it is none.
use Rattle.std.specs.Prelude.{ℕ, zero, suc, ◌&&◌, Bool, true, false, List, [], ◌∷◌, Option, Some, None, option_map, unwrap_or, codes, if◌then◌else◌}
use Rattle.std.specs.Str.{bytes_eq}
use Rattle.serde_json.specs.Data.{Data, depth}
use Rattle.serde_json.specs.Find.{get, as_str}
use Rattle.tpl_model.specs.declared.rule_set.RuleSet.{RuleSet}
use Rattle.tpl_model.specs.declared.rule_set.RuleSet.TheVariants.{WithoutTokens, WithTokens}
use Rattle.tpl_json.specs.Members.{◌>>=◌, ◌<$>◌, ◌<*>◌, only_if, has_only, object_of, has_member, text_in, bool_in, list_in, each, texts_in}
use Rattle.tpl_json.specs.Finals.{no_finals, finals_at}
use Rattle.tpl_cert.specs.NamedTrees.{NamedRow, NamedTree, SplitInput, SplitEnd, SplitWinner, Leaf, Least}

-- the members of a row: by the rules with tokens it speaks of tokens too
abbrev pub row_names : RuleSet → List (List ℕ)
row_names WithoutTokens = codes "ends" ∷ codes "runs" ∷ codes "before" ∷ codes "past" ∷ codes "chain" ∷ []
row_names WithTokens = codes "ends" ∷ codes "runs" ∷ codes "before" ∷ codes "past" ∷ codes "chain" ∷ codes "asked" ∷ codes "asks" ∷ []

-- {"ends": final statuses, "runs": true or false, "before": [task, ..], "past": [task, ..], "chain": [task, ..], "asked": [token, ..], "asks": [token, ..]}, of which all but the first two may be left out
unfoldable pub row_at : RuleSet → Data → Option NamedRow
row_at rules d = do
  only ← only_if (has_only (row_names rules) d)
  ends ← get (codes "ends") d >>= list_in >>= finals_at no_finals
  runs ← bool_in (codes "runs") d
  before ← texts_in (codes "before") d
  past ← texts_in (codes "past") d
  chain ← texts_in (codes "chain") d
  asked ← texts_in (codes "asked") d
  asks ← texts_in (codes "asks") d
  Some (record { ends = ends; runs = runs; before = before; past = past; chain = chain; asked = asked; asks = asks })

-- by the rules with tokens a leaf without rows is the text `least`
abbrev pub is_least : RuleSet → Data → Bool
is_least WithoutTokens d = false
is_least WithTokens d = unwrap_or (option_map (λ text. bytes_eq text (codes "least")) (as_str d)) false

-- that text, or {"rows": [row, ..]}
unfoldable pub leaf_at : RuleSet → Data → Option NamedTree
leaf_at rules d = if is_least rules d then Some Least else object_of (codes "rows" ∷ []) d (Leaf <$> (get (codes "rows") d >>= list_in >>= each (row_at rules)))

-- the tree in a member; `inner` reads the trees inside
abbrev pub inside : (Data → Option NamedTree) → List ℕ → Data → Option NamedTree
inside inner name d = get name d >>= inner

-- {"split_input": input, "yes": tree, "no": tree}
unfoldable pub input_at : (Data → Option NamedTree) → Data → Option NamedTree
input_at inner d = object_of (codes "split_input" ∷ codes "yes" ∷ codes "no" ∷ []) d ((λ input yes no. SplitInput input yes no) <$> text_in (codes "split_input") d <*> inside inner (codes "yes") d <*> inside inner (codes "no") d)

-- {"split_end": task, "ran": tree, "canceled": tree, "faulted": tree}
unfoldable pub end_at : (Data → Option NamedTree) → Data → Option NamedTree
end_at inner d =
    object_of (codes "split_end" ∷ codes "ran" ∷ codes "canceled" ∷ codes "faulted" ∷ []) d
    ((λ task ran canceled faulted. SplitEnd task ran canceled faulted) <$> text_in (codes "split_end") d <*> inside inner (codes "ran") d <*> inside inner (codes "canceled") d <*> inside inner (codes "faulted") d)

-- {"split_winner": WhenAny task, "task": argument, "yes": tree, "no": tree}
unfoldable pub winner_at : (Data → Option NamedTree) → Data → Option NamedTree
winner_at inner d =
    object_of (codes "split_winner" ∷ codes "task" ∷ codes "yes" ∷ codes "no" ∷ []) d
    ((λ task argument yes no. SplitWinner task argument yes no) <$> text_in (codes "split_winner") d <*> text_in (codes "task") d <*> inside inner (codes "yes") d <*> inside inner (codes "no") d)

-- by the rules with tokens trees split on winners too
abbrev pub splits_winners : RuleSet → Bool
splits_winners WithoutTokens = false
splits_winners WithTokens = true

-- a split or a leaf
unfoldable pub node_at : RuleSet → (Data → Option NamedTree) → Data → Option NamedTree
node_at rules inner d =
    if has_member (codes "split_input") d then input_at inner d
    else (if has_member (codes "split_end") d then end_at inner d else (if splits_winners rules && has_member (codes "split_winner") d then winner_at inner d else leaf_at rules d))

-- trees in trees to this depth
unfoldable pub tree_at : RuleSet → ℕ → Data → Option NamedTree
tree_at rules zero d = None
tree_at rules (suc n) d = node_at rules (tree_at rules n) d

-- trees in trees as deep as the value nests
unfoldable pub whole_tree : RuleSet → Data → Option NamedTree
whole_tree rules d = tree_at rules (suc (depth d)) d
