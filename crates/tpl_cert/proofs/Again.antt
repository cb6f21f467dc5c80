-- What is written for a tree spells the tree.
use Rattle.std.proofs.Common.{◌≡◌, ℕ, List, [], ◌∷◌, map, ◌+◌, Bool, true, false, Some, None, Ok, ok_or, refl, ◌∙◌}
use Rattle.std.specs.List.{All, list_all}
use Rattle.std.proofs.lemmas.List.Elements.{All-nil, All-cons, All-head, All-tail}
use Rattle.tpl_model.proofs.Truths.{and_first, and_second}
use Rattle.serde_json.specs.Data.{string}
use Rattle.serde_json.specs.Find.{as_str}
use Rattle.tpl_model.specs.Certificate.{Row, ArePlain, IsPlain, Tree, OnInput, OnEnd, OnWinner, RowsLeaf, LeastLeaf}
use Rattle.tpl_draft.specs.Named.{Names}
use Rattle.tpl_draft.specs.Names.{some_twice}
use Rattle.tpl_json.specs.Members.{◌>>=◌, has_only, text_in, list_or_none, each, texts_in}
use Rattle.tpl_json.specs.Finals.{no_finals, final_word, final_at, finals_at}
use Rattle.tpl_trees.specs.Sets.{IsSet}
use Rattle.tpl_cert.specs.NamedTrees.{NamedRow, NamedTree, SplitInput, SplitEnd, SplitWinner, Leaf, Least}
use Rattle.tpl_cert.specs.Reading.{row_at, leaf_at, input_at, end_at, winner_at, node_at, whole_tree}
use Rattle.tpl_cert.specs.Naming.{number_of, set_in, row_in, tree_in}
use Rattle.tpl_cert.specs.Written.{texts_data, words_of, row_data, tree_data, name_at, is_id, has_row_ids, has_ids, HasRowSets, HasSets}
use Rattle.tpl_cert.specs.Spelled.{spelled_tree}
use Rattle.tpl_model.specs.declared.rule_set.RuleSet.{RuleSet}
use Rattle.tpl_model.specs.declared.rule_set.RuleSet.TheVariants.{WithoutTokens, WithTokens}
use Rattle.tpl_json.specs.Passes.{each_from}
use Rattle.tpl_json.proofs.Arrays.{elements-items_of, each_cons, each_empty}
use Rattle.tpl_json.proofs.Passes.{each_empty as each_none, each_cons as each_one_more}
use Rattle.tpl_cert.specs.declared.fault.TreeFault.TheVariants.{Unknown}
use Rattle.tpl_json.proofs.Json.{texts_read}
use Rattle.tpl_cert.proofs.Trees.{whole_tree-node}
use Rattle.tpl_cert.proofs.Unique.{number_of-name_at}

-- ---- what can be read by the rules

-- a row that was written by the second rules can be read by the first
abbrev FitsRow : RuleSet → RuleSet → Row → Type 0
FitsRow reading WithoutTokens r = (r.asked ≡ []) × (r.asks ≡ [])
FitsRow reading WithTokens r = reading ≡ WithTokens

-- a tree
abbrev Fits : RuleSet → RuleSet → Tree → Type 0
Fits reading writing (OnInput i a b) = Fits reading writing a × Fits reading writing b
Fits reading writing (OnEnd t a b c) = Fits reading writing a × Fits reading writing b × Fits reading writing c
Fits reading writing (OnWinner t x a b) = (reading ≡ WithTokens) × Fits reading writing a × Fits reading writing b
Fits reading writing (RowsLeaf rows) = All (FitsRow reading writing) rows
Fits reading writing LeastLeaf = reading ≡ WithTokens

plain_rows_fit : (rows : List Row) → ArePlain rows → All (FitsRow WithoutTokens WithoutTokens) rows
plain_rows_fit [] plain = All-nil (FitsRow WithoutTokens WithoutTokens)
plain_rows_fit (r ∷ rows) plain = All-cons (FitsRow WithoutTokens WithoutTokens) r rows (plain.0, plain.1) (plain_rows_fit rows plain.2)

plain_fits : (t : Tree) → IsPlain t → Fits WithoutTokens WithoutTokens t
plain_fits (OnInput i a b) plain = (plain_fits a plain.0, plain_fits b plain.1)
plain_fits (OnEnd t a b c) plain = (plain_fits a plain.0, plain_fits b plain.1, plain_fits c plain.2)
plain_fits (OnWinner n x a b) plain = absurd plain
plain_fits (RowsLeaf rows) plain = plain_rows_fit rows plain
plain_fits LeastLeaf plain = absurd plain

token_rows_fit : (rows : List Row) → All (FitsRow WithTokens WithTokens) rows
token_rows_fit [] = All-nil (FitsRow WithTokens WithTokens)
token_rows_fit (r ∷ rows) = All-cons (FitsRow WithTokens WithTokens) r rows refl (token_rows_fit rows)

token_fits : (t : Tree) → Fits WithTokens WithTokens t
token_fits (OnInput i a b) = (token_fits a, token_fits b)
token_fits (OnEnd t a b c) = (token_fits a, token_fits b, token_fits c)
token_fits (OnWinner t x a b) = (refl, token_fits a, token_fits b)
token_fits (RowsLeaf rows) = token_rows_fit rows
token_fits LeastLeaf = refl

-- ---- with names

-- the row, and the tree, with names in place of ids
abbrev named_row : Names → Row → NamedRow
named_row n r =
    record { ends = r.row.ends; runs = r.row.runs; before = map (name_at n.tasks) r.row.before; past = map (name_at n.tasks) r.row.past; chain = map (name_at n.tasks) r.row.chain; asked = map (name_at n.tokens) r.asked; asks = map (name_at n.tokens) r.asks }

abbrev named : Names → Tree → NamedTree
named n (OnInput i a b) = SplitInput (name_at n.inputs i) (named n a) (named n b)
named n (OnEnd t a b c) = SplitEnd (name_at n.tasks t) (named n a) (named n b) (named n c)
named n (OnWinner t x a b) = SplitWinner (name_at n.tasks t) (name_at n.tasks x) (named n a) (named n b)
named n (RowsLeaf rows) = Leaf (map (named_row n) rows)
named n LeastLeaf = Least

texts_again : (texts : List (List ℕ)) → (list_or_none (Some (texts_data texts)) >>= each as_str) ≡ Some texts
unfolding list_or_none
texts_again texts = rw (elements-items_of (map string texts)) (texts_read texts)

finals_again : (a b c : Bool) → finals_at no_finals (map string (words_of (record { ran = a; canceled = b; faulted = c }))) ≡ Some (record { ran = a; canceled = b; faulted = c })
unfolding finals_at final_at final_word
finals_again true true true = refl
finals_again true true false = refl
finals_again true false true = refl
finals_again true false false = refl
finals_again false true true = refl
finals_again false true false = refl
finals_again false false true = refl
finals_again false false false = refl

none_again : (list_or_none None >>= each as_str) ≡ Some []
unfolding list_or_none
none_again = each_empty as_str

row_again : (reading writing : RuleSet) (n : Names) (r : Row) → FitsRow reading writing r → row_at reading (row_data writing n r) ≡ Some (named_row n r)
unfolding row_at has_only texts_in
row_again WithoutTokens WithoutTokens n r fits =
    rw (fits.0, fits.1, elements-items_of (map string (words_of r.row.ends)), finals_again r.row.ends.ran r.row.ends.canceled r.row.ends.faulted, texts_again (map (name_at n.tasks) r.row.before), texts_again (map (name_at n.tasks) r.row.past), texts_again (map (name_at n.tasks) r.row.chain), none_again) refl
row_again WithTokens WithoutTokens n r fits =
    rw (fits.0, fits.1, elements-items_of (map string (words_of r.row.ends)), finals_again r.row.ends.ran r.row.ends.canceled r.row.ends.faulted, texts_again (map (name_at n.tasks) r.row.before), texts_again (map (name_at n.tasks) r.row.past), texts_again (map (name_at n.tasks) r.row.chain), none_again) refl
row_again WithoutTokens WithTokens n r fits = absurd cc
row_again WithTokens WithTokens n r fits =
    rw (elements-items_of (map string (words_of r.row.ends)), finals_again r.row.ends.ran r.row.ends.canceled r.row.ends.faulted, texts_again (map (name_at n.tasks) r.row.before), texts_again (map (name_at n.tasks) r.row.past), texts_again (map (name_at n.tasks) r.row.chain), texts_again (map (name_at n.tokens) r.asked), texts_again (map (name_at n.tokens) r.asks)) refl

rows_again : (reading writing : RuleSet) (n : Names) (rows : List Row) → All (FitsRow reading writing) rows → each (row_at reading) (map (row_data writing n) rows) ≡ Some (map (named_row n) rows)
rows_again reading writing n [] fits = each_empty (row_at reading)
rows_again reading writing n (r ∷ rows) fits =
    each_cons (row_at reading) (row_data writing n r) (map (row_data writing n) rows) (named_row n r) (map (named_row n) rows) (row_again reading writing n r (All-head (FitsRow reading writing) r rows fits))
    (rows_again reading writing n rows (All-tail (FitsRow reading writing) r rows fits))

-- a value that is read by the rules as a node, a split or a leaf
leaf_again : (reading writing : RuleSet) (n : Names) (rows : List Row) → All (FitsRow reading writing) rows → node_at reading (whole_tree reading) (tree_data writing n (RowsLeaf rows)) ≡ Some (Leaf (map (named_row n) rows))
unfolding node_at leaf_at has_only
leaf_again WithoutTokens writing n rows fits = rw (elements-items_of (map (row_data writing n) rows), rows_again WithoutTokens writing n rows fits) refl
leaf_again WithTokens writing n rows fits = rw (elements-items_of (map (row_data writing n) rows), rows_again WithTokens writing n rows fits) refl

tree_again : (reading writing : RuleSet) (n : Names) (t : Tree) → Fits reading writing t → whole_tree reading (tree_data writing n t) ≡ Some (named n t)
unfolding node_at input_at end_at winner_at leaf_at text_in has_only
tree_again reading writing n (OnInput i a b) fits = whole_tree-node reading (tree_data writing n (OnInput i a b)) ∙ rw (tree_again reading writing n a fits.0, tree_again reading writing n b fits.1) refl
tree_again reading writing n (OnEnd t a b c) fits =
    whole_tree-node reading (tree_data writing n (OnEnd t a b c)) ∙ rw (tree_again reading writing n a fits.0, tree_again reading writing n b fits.1, tree_again reading writing n c fits.2) refl
tree_again reading writing n (OnWinner t x a b) fits =
    whole_tree-node reading (tree_data writing n (OnWinner t x a b)) ∙ rw (tree_again reading writing n a fits.1, tree_again reading writing n b fits.2, fits.0) refl
tree_again reading writing n (RowsLeaf rows) fits = whole_tree-node reading (tree_data writing n (RowsLeaf rows)) ∙ leaf_again reading writing n rows fits
tree_again reading writing n LeastLeaf fits = whole_tree-node reading (tree_data writing n LeastLeaf) ∙ rw fits refl

-- ---- the names

numbers_from : (names : List (List ℕ)) → some_twice names ≡ false → (k : ℕ) (ids : List ℕ) → list_all (is_id names) ids ≡ true → each_from (λ j text. ok_or (number_of names text) Unknown) k (map (name_at names) ids) ≡ Ok ids
numbers_from names once k [] h = each_none (λ j text. ok_or (number_of names text) Unknown) k
numbers_from names once k (i ∷ ids) h =
    each_one_more (λ j text. ok_or (number_of names text) Unknown) k (name_at names i) (map (name_at names) ids) i ids (rw (number_of-name_at names once i (and_first (is_id names i) (list_all (is_id names) ids) h)) refl)
    (numbers_from names once (k + 1) ids (and_second (is_id names i) (list_all (is_id names) ids) h))

set_again : (most : ℕ) (names : List (List ℕ)) → some_twice names ≡ false → (ids : List ℕ) → IsSet most ids → list_all (is_id names) ids ≡ true → set_in most names (map (name_at names) ids) ≡ Ok ids
unfolding IsSet
set_again most names once ids set h = rw (numbers_from names once 1 ids h, set) refl

-- no name is there twice
pub record AreOnce (n : Names) : Type 0 where
  pub inputs : some_twice n.inputs ≡ false
  pub tasks : some_twice n.tasks ≡ false
  pub tokens : some_twice n.tokens ≡ false

row_named : (n : Names) → AreOnce n → (r : Row) → has_row_ids n r ≡ true → HasRowSets r → row_in n (named_row n r) ≡ Ok r
unfolding row_in
row_named n once r h sets =
    let more = and_second (list_all (is_id n.tokens) r.asked) _ h in
    let tasks = and_second (list_all (is_id n.tokens) r.asks) _ more in
    let rest = and_second (list_all (is_id n.tasks) r.row.before) _ tasks in
    rw (
      set_again 1024 n.tasks once.tasks r.row.before sets.1.0 (and_first (list_all (is_id n.tasks) r.row.before) _ tasks),
      set_again 1024 n.tasks once.tasks r.row.past sets.1.1 (and_first (list_all (is_id n.tasks) r.row.past) _ rest),
      numbers_from n.tasks once.tasks 1 r.row.chain (and_second (list_all (is_id n.tasks) r.row.past) _ rest),
      set_again 32 n.tokens once.tokens r.asked sets.0.0 (and_first (list_all (is_id n.tokens) r.asked) _ h),
      set_again 32 n.tokens once.tokens r.asks sets.0.1 (and_first (list_all (is_id n.tokens) r.asks) _ more),
    ) refl

rows_named : (n : Names) → AreOnce n → (k : ℕ) (rows : List Row) → list_all (has_row_ids n) rows ≡ true → All HasRowSets rows → each_from (λ j r. row_in n r) k (map (named_row n) rows) ≡ Ok rows
rows_named n once k [] h sets = each_none (λ j r. row_in n r) k
rows_named n once k (r ∷ rows) h sets =
    each_one_more (λ j r. row_in n r) k (named_row n r) (map (named_row n) rows) r rows (row_named n once r (and_first (has_row_ids n r) _ h) (All-head HasRowSets r rows sets))
    (rows_named n once (k + 1) rows (and_second (has_row_ids n r) _ h) (All-tail HasRowSets r rows sets))

tree_named : (n : Names) → AreOnce n → (t : Tree) → has_ids n t ≡ true → HasSets t → tree_in n (named n t) ≡ Ok t
unfolding tree_in
tree_named n once (OnInput i a b) h sets =
    let rest = and_second (is_id n.inputs i) _ h in
    rw (number_of-name_at n.inputs once.inputs i (and_first (is_id n.inputs i) _ h), tree_named n once a (and_first (has_ids n a) _ rest) sets.0, tree_named n once b (and_second (has_ids n a) _ rest) sets.1) refl
tree_named n once (OnEnd t a b c) h sets =
    let rest = and_second (is_id n.tasks t) _ h in
    let more = and_second (has_ids n a) _ rest in
    rw (number_of-name_at n.tasks once.tasks t (and_first (is_id n.tasks t) _ h), tree_named n once a (and_first (has_ids n a) _ rest) sets.0, tree_named n once b (and_first (has_ids n b) _ more) sets.1, tree_named n once c (and_second (has_ids n b) _ more) sets.2) refl
tree_named n once (OnWinner t x a b) h sets =
    let rest = and_second (is_id n.tasks t) _ h in
    let more = and_second (is_id n.tasks x) _ rest in
    rw (number_of-name_at n.tasks once.tasks t (and_first (is_id n.tasks t) _ h), number_of-name_at n.tasks once.tasks x (and_first (is_id n.tasks x) _ rest), tree_named n once a (and_first (has_ids n a) _ more) sets.0, tree_named n once b (and_second (has_ids n a) _ more) sets.1) refl
tree_named n once (RowsLeaf rows) h sets = rw (rows_named n once 1 rows h sets) refl
tree_named n once LeastLeaf h sets = refl

reads_again : (reading writing : RuleSet) (n : Names) → AreOnce n → (t : Tree) → Fits reading writing t → has_ids n t ≡ true → HasSets t → spelled_tree reading n (tree_data writing n t) ≡ Ok t
unfolding spelled_tree
reads_again reading writing n once t fits h sets = rw (tree_again reading writing n t fits, tree_named n once t h sets) refl

-- what is written by the rules spells the tree by them
fits_by : (rules : RuleSet) (t : Tree) → (rules ≡ WithoutTokens → IsPlain t) → Fits rules rules t
fits_by WithoutTokens t plain = plain_fits t (plain refl)
fits_by WithTokens t plain = token_fits t

abbrev IsSpelled : RuleSet → Names → Tree → Type 0
IsSpelled rules n t = spelled_tree rules n (tree_data rules n t) ≡ Ok t

pub all_read_again : (rules : RuleSet) (n : Names) → AreOnce n → (trees : List Tree) → (rules ≡ WithoutTokens → All IsPlain trees) → list_all (has_ids n) trees ≡ true → All HasSets trees → All (IsSpelled rules n) trees
all_read_again rules n once [] plain h sets = All-nil (IsSpelled rules n)
all_read_again rules n once (t ∷ trees) plain h sets =
    All-cons (IsSpelled rules n) t trees (reads_again rules rules n once t (fits_by rules t (λ e. All-head IsPlain t trees (plain e))) (and_first (has_ids n t) _ h) (All-head HasSets t trees sets))
    (all_read_again rules n once trees (λ e. All-tail IsPlain t trees (plain e)) (and_second (has_ids n t) _ h) (All-tail HasSets t trees sets))
