-- The text that is written for trees is read as their values.
use Rattle.std.proofs.Common.{◌≡◌, ℕ, suc, max, ◌≤◌, List, [], ◌∷◌, map, Option, Some, option_and_then, refl, ap, ap₂, sym, ◌∙◌, subst, append-nil}
use Rattle.std.specs.List.{All}
use Rattle.json.specs.Token.{Token}
use Rattle.json.specs.Lex.{tokens}
use Rattle.json.specs.Json.{Json, if_last, value}
use Rattle.json.specs.Tree as json
use Rattle.json.proofs.Printed.Trees.{value-json_tokens}
use Rattle.serde_json.specs.Data.{Data, null, boolean, number, string, array, object, Items, no_items, item, Members, no_members, member, depth, items_depth, members_depth}
use Rattle.serde_json.specs.Read.{of_json, of_items, read, max_depth}
use Rattle.serde_json.specs.View.{items_of}
use Rattle.serde_json.specs.Written.{outline, items_outline, members_outline}
use Rattle.tpl_model.specs.declared.rule_set.RuleSet.{RuleSet}
use Rattle.tpl_model.specs.declared.rule_set.RuleSet.TheVariants.{WithoutTokens, WithTokens}
use Rattle.tpl_model.specs.Certificate.{Row, Tree, OnInput, OnEnd, OnWinner, RowsLeaf, LeastLeaf}
use Rattle.tpl_draft.specs.Named.{Names}
use Rattle.tpl_trees.specs.Heights.{height}
use Rattle.tpl_cert.specs.Written.{words_of, name_at, row_data, tree_data, certificate_data}
use Rattle.tpl_cert.proofs.Nesting.{certificate_depth}

mutual
  outline_depth : (d : Data) → json.depth (outline d) ≡ depth d
  outline_depth null = refl
  outline_depth (boolean b) = refl
  outline_depth (number n) = refl
  outline_depth (string s) = refl
  outline_depth (array ds) = ap suc (items_outline_depth ds)
  outline_depth (object ms) = ap suc (members_outline_depth ms)

  items_outline_depth : (ds : Items) → json.items_depth (items_outline ds) ≡ items_depth ds
  items_outline_depth no_items = refl
  items_outline_depth (item d ds) = ap₂ max (outline_depth d) (items_outline_depth ds)

  members_outline_depth : (ms : Members) → json.members_depth (members_outline ms) ≡ members_depth ms
  members_outline_depth no_members = refl
  members_outline_depth (member k d ms) = ap₂ max (outline_depth d) (members_outline_depth ms)

texts_read : (texts : List (List ℕ)) → of_items (items_outline (items_of (map string texts))) ≡ Some (items_of (map string texts))
texts_read [] = refl
texts_read (text ∷ texts) = rw (texts_read texts) refl

row_read : (rules : RuleSet) (n : Names) (r : Row) → of_json (outline (row_data rules n r)) ≡ Some (row_data rules n r)
row_read WithoutTokens n r = rw (texts_read (map (name_at n.tasks) r.row.before), texts_read (map (name_at n.tasks) r.row.chain), texts_read (words_of r.row.ends), texts_read (map (name_at n.tasks) r.row.past)) refl
row_read WithTokens n r =
    rw (texts_read (map (name_at n.tokens) r.asked), texts_read (map (name_at n.tokens) r.asks), texts_read (map (name_at n.tasks) r.row.before), texts_read (map (name_at n.tasks) r.row.chain), texts_read (words_of r.row.ends), texts_read (map (name_at n.tasks) r.row.past)) refl

rows_read : (rules : RuleSet) (n : Names) (rows : List Row) → of_items (items_outline (items_of (map (row_data rules n) rows))) ≡ Some (items_of (map (row_data rules n) rows))
rows_read rules n [] = refl
rows_read rules n (r ∷ rows) = rw (row_read rules n r, rows_read rules n rows) refl

tree_read : (rules : RuleSet) (n : Names) (t : Tree) → of_json (outline (tree_data rules n t)) ≡ Some (tree_data rules n t)
tree_read rules n (OnInput i a b) = rw (tree_read rules n a, tree_read rules n b) refl
tree_read rules n (OnEnd t a b c) = rw (tree_read rules n a, tree_read rules n b, tree_read rules n c) refl
tree_read rules n (OnWinner t x a b) = rw (tree_read rules n a, tree_read rules n b) refl
tree_read rules n (RowsLeaf rows) = rw (rows_read rules n rows) refl
tree_read rules n LeastLeaf = refl

trees_read : (rules : RuleSet) (n : Names) (trees : List Tree) → of_items (items_outline (items_of (map (tree_data rules n) trees))) ≡ Some (items_of (map (tree_data rules n) trees))
trees_read rules n [] = refl
trees_read rules n (t ∷ trees) = rw (tree_read rules n t, trees_read rules n trees) refl

-- the value of what was parsed, where nothing is left
abbrev whole : Option (Json × List Token) → Option Data
whole parsed = option_and_then of_json (option_and_then (λ p. if_last p.0 p.1) parsed)

pub certificate_read : (rules : RuleSet) (n : Names) (trees : List Tree) (text : List ℕ) → All (λ t. height t ≤ 6) trees → tokens text ≡ json.json_tokens (outline (certificate_data rules n trees)) → read text ≡ Some (certificate_data rules n trees)
certificate_read rules n trees text low same =
    let d = certificate_data rules n trees in
    let shallow : json.depth (outline d) ≤ max_depth = subst (λ (m : ℕ). m ≤ max_depth) (sym (outline_depth d)) (certificate_depth rules n trees low) in
    ap whole (ap (value max_depth) (same ∙ sym (append-nil _)) ∙ value-json_tokens (outline d) max_depth [] shallow) ∙ rw (trees_read rules n trees) refl
