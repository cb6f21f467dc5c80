-- The tree with ids in place of names, in a graph with its names, or that one of the names isn't the graph's.
use Rattle.std.specs.Prelude.{ℕ, Bool, List, Option, is_some, Result, Ok, ok_or}
use Rattle.std.specs.List.{position}
use Rattle.std.specs.Str.{bytes_eq}
use Rattle.tpl_model.specs.declared.limits.TheConstants.{MOST_TASKS, MOST_TOKENS}
use Rattle.tpl_model.specs.Certificate.{Row, Tree, OnInput, OnEnd, OnWinner, RowsLeaf, LeastLeaf}
use Rattle.tpl_draft.specs.Named.{Names}
use Rattle.tpl_json.specs.Passes.{◌>>=◌, each_from, all_or}
use Rattle.tpl_trees.specs.Sets.{as_set}
use Rattle.tpl_cert.specs.NamedTrees.{NamedRow, NamedTree, SplitInput, SplitEnd, SplitWinner, Leaf, Least}
use Rattle.tpl_cert.specs.declared.fault.TreeFault.{TreeFault}
use Rattle.tpl_cert.specs.declared.fault.TreeFault.TheVariants.{Unknown}

-- the number of a name among those that are declared
abbrev pub number_of : List (List ℕ) → List ℕ → Option ℕ
number_of names name = position (bytes_eq name) names

abbrev pub is_declared : List (List ℕ) → List ℕ → Bool
is_declared names name = is_some (number_of names name)

-- the same, of a name that has to be declared
abbrev pub number_in : List (List ℕ) → List ℕ → Result ℕ TreeFault
number_in names name = ok_or (number_of names name) Unknown

abbrev pub numbers_in : List (List ℕ) → List (List ℕ) → Result (List ℕ) TreeFault
numbers_in names texts = all_or Unknown (number_of names) texts

-- the set of what the texts name
abbrev pub set_in : ℕ → List (List ℕ) → List (List ℕ) → Result (List ℕ) TreeFault
set_in most names texts = do
  ns ← numbers_in names texts
  Ok (as_set most ns)

-- a row
unfoldable pub row_in : Names → NamedRow → Result Row TreeFault
row_in n r = do
  before ← set_in MOST_TASKS n.tasks r.before
  past ← set_in MOST_TASKS n.tasks r.past
  chain ← numbers_in n.tasks r.chain
  asked ← set_in MOST_TOKENS n.tokens r.asked
  asks ← set_in MOST_TOKENS n.tokens r.asks
  Ok (record { row = record { ends = r.ends; runs = r.runs; before = before; past = past; chain = chain }; asked = asked; asks = asks })

-- the rows of a leaf
abbrev pub rows_in : Names → List NamedRow → Result (List Row) TreeFault
rows_in n rows = each_from (λ k r. row_in n r) 1 rows

-- a tree
unfoldable pub tree_in : Names → NamedTree → Result Tree TreeFault
tree_in n (SplitInput name a b) = do
  input ← number_in n.inputs name
  on_true ← tree_in n a
  on_false ← tree_in n b
  Ok (OnInput input on_true on_false)
tree_in n (SplitEnd name a b c) = do
  task ← number_in n.tasks name
  ran ← tree_in n a
  canceled ← tree_in n b
  faulted ← tree_in n c
  Ok (OnEnd task ran canceled faulted)
tree_in n (SplitWinner name other a b) = do
  task ← number_in n.tasks name
  argument ← number_in n.tasks other
  on_yes ← tree_in n a
  on_no ← tree_in n b
  Ok (OnWinner task argument on_yes on_no)
tree_in n (Leaf rows) = do
  rows ← rows_in n rows
  Ok (RowsLeaf rows)
tree_in n Least = Ok LeastLeaf
