-- How deep what is written for trees nests.
use Rattle.std.proofs.Common.{ℕ, suc, ◌≤◌, ◌+◌, List, [], ◌∷◌, map, arith}
use Rattle.std.specs.List.{All}
use Rattle.serde_json.specs.Data.{string, depth, items_depth, members_depth}
use Rattle.serde_json.specs.Read.{max_depth}
use Rattle.serde_json.specs.View.{items_of}
use Rattle.tpl_model.specs.declared.rule_set.RuleSet.{RuleSet}
use Rattle.tpl_model.specs.declared.rule_set.RuleSet.TheVariants.{WithoutTokens, WithTokens}
use Rattle.tpl_model.specs.Certificate.{PlainRow, Row, Tree, OnInput, OnEnd, OnWinner, RowsLeaf, LeastLeaf}
use Rattle.tpl_draft.specs.Named.{Names}
use Rattle.tpl_trees.specs.Heights.{height}
use Rattle.tpl_cert.specs.Written.{words_of, name_at, row_members, row_data, tree_data, certificate_data}

texts_flat : (texts : List (List ℕ)) → items_depth (items_of (map string texts)) ≤ 0
texts_flat [] = omega arith
texts_flat (t ∷ texts) = let le = texts_flat texts in omega arith

members_flat : (n : Names) (r : PlainRow) → members_depth (row_members n r) ≤ 1
members_flat n r =
    let before = texts_flat (map (name_at n.tasks) r.before) in
    let chain = texts_flat (map (name_at n.tasks) r.chain) in
    let ends = texts_flat (words_of r.ends) in
    let past = texts_flat (map (name_at n.tasks) r.past) in
    omega arith

row_depth : (rules : RuleSet) (n : Names) (r : Row) → depth (row_data rules n r) ≤ 2
row_depth WithoutTokens n r = let le = members_flat n r.row in omega arith
row_depth WithTokens n r =
    let asked = texts_flat (map (name_at n.tokens) r.asked) in
    let asks = texts_flat (map (name_at n.tokens) r.asks) in
    let le = members_flat n r.row in
    omega arith

rows_depth : (rules : RuleSet) (n : Names) (rows : List Row) → items_depth (items_of (map (row_data rules n) rows)) ≤ 2
rows_depth rules n [] = omega arith
rows_depth rules n (r ∷ rows) =
    let first = row_depth rules n r in
    let rest = rows_depth rules n rows in
    omega arith

pub tree_depth : (rules : RuleSet) (n : Names) (t : Tree) → depth (tree_data rules n t) ≤ height t + 4
tree_depth rules n (OnInput i a b) =
    let first = tree_depth rules n a in
    let second = tree_depth rules n b in
    omega arith
tree_depth rules n (OnEnd t a b c) =
    let first = tree_depth rules n a in
    let second = tree_depth rules n b in
    let third = tree_depth rules n c in
    omega arith
tree_depth rules n (OnWinner t x a b) =
    let first = tree_depth rules n a in
    let second = tree_depth rules n b in
    omega arith
tree_depth rules n (RowsLeaf rows) = let le = rows_depth rules n rows in omega arith
tree_depth rules n LeastLeaf = omega arith

trees_depth : (rules : RuleSet) (n : Names) (trees : List Tree) → All (λ t. height t ≤ 6) trees → items_depth (items_of (map (tree_data rules n) trees)) ≤ 10
trees_depth rules n [] low = omega arith
trees_depth rules n (t ∷ trees) low =
    let first = tree_depth rules n t in
    let six : height t ≤ 6 = low 0 t (omega arith) in
    let rest = trees_depth rules n trees (λ k x lt. low (suc k) x (omega arith)) in
    omega arith

pub certificate_depth : (rules : RuleSet) (n : Names) (trees : List Tree) → All (λ t. height t ≤ 6) trees → depth (certificate_data rules n trees) ≤ max_depth
certificate_depth rules n trees low = let le = trees_depth rules n trees low in omega arith
