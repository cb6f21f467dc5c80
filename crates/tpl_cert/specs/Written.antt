-- The one spelling that is written for a tree by the rules: each member, in the order of the bytes of the names.
use Rattle.std.specs.Prelude.{◌≡◌, ℕ, ◌++◌, ◌&&◌, Bool, true, false, List, [], ◌∷◌, length, codes, map, nat_lt, slice_index_or, if◌then◌else◌, Result, Ok, Err}
use Rattle.std.specs.List.{All, list_all}
use Rattle.json.specs.Token.{Token}
use Rattle.json.specs.Tree.{json_tokens, members_tokens}
use Rattle.json.specs.Written.{Written}
use Rattle.serde_json.specs.Written.{outline, members_outline}
use Rattle.serde_json.specs.Data.{Data, string, boolean, array, object, Members, no_members, member}
use Rattle.serde_json.specs.View.{items_of}
use Rattle.tpl_model.specs.declared.finals.Finals.{Finals}
use Rattle.tpl_model.specs.declared.rule_set.RuleSet.{RuleSet}
use Rattle.tpl_model.specs.declared.rule_set.RuleSet.TheVariants.{WithoutTokens, WithTokens}
use Rattle.tpl_model.specs.Certificate.{PlainRow, Row, Tree, OnInput, OnEnd, OnWinner, RowsLeaf, LeastLeaf}
use Rattle.tpl_draft.specs.Named.{Names}
use Rattle.tpl_trees.specs.Sets.{HasTaskSets, HasTokenSets}
use Rattle.tpl_cert.specs.declared.fault.TreeToFault.{TreeToFault}
use Rattle.tpl_cert.specs.declared.fault.TreeToFault.TheVariants as faults

-- an array of texts
abbrev pub texts_data : List (List ℕ) → Data
texts_data texts = array (items_of (map string texts))

-- the word, where it is to stand
abbrev pub word_if : Bool → List ℕ → List (List ℕ)
word_if b word = if b then word ∷ [] else []

-- the words of the set in the order RanToCompletion, Canceled, Faulted
abbrev pub words_of : Finals → List (List ℕ)
words_of e = word_if e.ran (codes "RanToCompletion") ++ (word_if e.canceled (codes "Canceled") ++ word_if e.faulted (codes "Faulted"))

-- ---- names for ids

-- the name of an id
abbrev pub name_at : List (List ℕ) → ℕ → List ℕ
name_at names i = slice_index_or names i []

-- the id has one
abbrev pub is_id : List (List ℕ) → ℕ → Bool
is_id names i = nat_lt i (length names)

-- the array of the names of these ids
abbrev pub names_data : List (List ℕ) → List ℕ → Data
names_data names ids = texts_data (map (name_at names) ids)

-- ---- the values

-- the members of a row that don't speak of tokens
abbrev pub row_members : Names → PlainRow → Members
row_members n r =
    member (codes "before") (names_data n.tasks r.before)
    (member (codes "chain") (names_data n.tasks r.chain) (member (codes "ends") (texts_data (words_of r.ends)) (member (codes "past") (names_data n.tasks r.past) (member (codes "runs") (boolean r.runs) no_members))))

-- by the rules with tokens a row has its tokens too
abbrev pub row_data : RuleSet → Names → Row → Data
row_data WithoutTokens n r = object (row_members n r.row)
row_data WithTokens n r = object (member (codes "asked") (names_data n.tokens r.asked) (member (codes "asks") (names_data n.tokens r.asks) (row_members n r.row)))

-- a leaf with rows, and the splits
abbrev pub leaf_data : Data → Data
leaf_data rows = object (member (codes "rows") rows no_members)

abbrev pub input_data : List ℕ → Data → Data → Data
input_data name first second = object (member (codes "no") second (member (codes "split_input") (string name) (member (codes "yes") first no_members)))

abbrev pub end_data : List ℕ → Data → Data → Data → Data
end_data name ran canceled faulted = object (member (codes "canceled") canceled (member (codes "faulted") faulted (member (codes "ran") ran (member (codes "split_end") (string name) no_members))))

abbrev pub winner_data : List ℕ → List ℕ → Data → Data → Data
winner_data name argument first second =
    object (member (codes "no") second (member (codes "split_winner") (string name) (member (codes "task") (string argument) (member (codes "yes") first no_members))))

-- a leaf without rows is the text `least`
abbrev pub tree_data : RuleSet → Names → Tree → Data
tree_data rules n (OnInput i a b) = input_data (name_at n.inputs i) (tree_data rules n a) (tree_data rules n b)
tree_data rules n (OnEnd t a b c) = end_data (name_at n.tasks t) (tree_data rules n a) (tree_data rules n b) (tree_data rules n c)
tree_data rules n (OnWinner t x a b) = winner_data (name_at n.tasks t) (name_at n.tasks x) (tree_data rules n a) (tree_data rules n b)
tree_data rules n (RowsLeaf rows) = leaf_data (array (items_of (map (row_data rules n) rows)))
tree_data rules n LeastLeaf = string (codes "least")

-- the array of the values of trees
abbrev pub certificate_data : RuleSet → Names → List Tree → Data
certificate_data rules n trees = array (items_of (map (tree_data rules n) trees))

-- ---- what trees have to be

-- each id in the tree is the graph's
abbrev pub has_task_ids : Names → PlainRow → Bool
has_task_ids n r = list_all (is_id n.tasks) r.before && (list_all (is_id n.tasks) r.past && list_all (is_id n.tasks) r.chain)

abbrev pub has_row_ids : Names → Row → Bool
has_row_ids n r = list_all (is_id n.tokens) r.asked && (list_all (is_id n.tokens) r.asks && has_task_ids n r.row)

abbrev pub has_ids : Names → Tree → Bool
has_ids n (OnInput i a b) = is_id n.inputs i && (has_ids n a && has_ids n b)
has_ids n (OnEnd t a b c) = is_id n.tasks t && (has_ids n a && (has_ids n b && has_ids n c))
has_ids n (OnWinner t x a b) = is_id n.tasks t && (is_id n.tasks x && (has_ids n a && has_ids n b))
has_ids n (RowsLeaf rows) = list_all (has_row_ids n) rows
has_ids n LeastLeaf = true

-- what stands before and past is a set of tasks, and the tokens are sets
abbrev pub HasRowSets : Row → Type 0
HasRowSets r = HasTokenSets r × HasTaskSets r.row

abbrev pub HasSets : Tree → Type 0
HasSets (OnInput i a b) = HasSets a × HasSets b
HasSets (OnEnd t a b c) = HasSets a × HasSets b × HasSets c
HasSets (OnWinner t x a b) = HasSets a × HasSets b
HasSets (RowsLeaf rows) = All HasRowSets rows
HasSets LeastLeaf = Unit {0}

-- ---- what a writer has written

-- these tokens come after those that were written before
abbrev pub Puts : List Token → Written → Written → Type 0
Puts ts old new = (new.before ≡ old.before) × (new.tokens ≡ old.tokens ++ ts)

-- the tokens of the value come after those that were written before
abbrev pub PutsValue : Data → Written → Written → Type 0
PutsValue d = Puts (json_tokens (outline d))

-- the tokens of the last members of an object, with its end
abbrev pub PutsMembers : Members → Written → Written → Type 0
PutsMembers ms = Puts (members_tokens (members_outline ms))

-- what is written for ids: a value, or that one of the ids isn't the graph's, unless memory ran out
abbrev pub Unwritten : TreeToFault → Bool → Type 0
Unwritten faults.Unknown known = known ≡ false
Unwritten faults.Memory known = Unit {0}

abbrev pub Writes : {X : Type 0} → Result X TreeToFault → Bool → (X → Type 0) → Type 0
Writes (Ok x) known IsWritten = (known ≡ true) × IsWritten x
Writes (Err e) known IsWritten = Unwritten e known
