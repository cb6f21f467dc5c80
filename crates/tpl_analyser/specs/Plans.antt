-- Plans: the splits of a tree whose leaves have no rows yet.
use Rattle.std.specs.Prelude.{ℕ, ◌<◌, ◌≤◌, ⊤, Option, IfSome, Result, IfOk}
use Rattle.tpl_model.specs.Graph.{TaskGraph, is_task}
use Rattle.tpl_model.specs.Certificate.{Tree, OnInput, OnEnd, OnWinner, RowsLeaf, LeastLeaf}
use Rattle.tpl_trees.specs.Heights.{height}

-- each split is on one of the graph's inputs, on how one of its tasks ends, or on a winner
abbrev pub HasSplitsOf : TaskGraph → Tree → Type 0
HasSplitsOf g (OnInput i on_true on_false) = (i < g.inputs) × HasSplitsOf g on_true × HasSplitsOf g on_false
HasSplitsOf g (OnEnd t ran canceled faulted) = is_task g t × HasSplitsOf g ran × HasSplitsOf g canceled × HasSplitsOf g faulted
HasSplitsOf g (OnWinner n x on_yes on_no) = HasSplitsOf g on_yes × HasSplitsOf g on_no
HasSplitsOf g (RowsLeaf rows) = ⊤
HasSplitsOf g LeastLeaf = ⊤

-- each leaf is without rows
abbrev pub HasNoRows : Tree → Type 0
HasNoRows (OnInput i on_true on_false) = HasNoRows on_true × HasNoRows on_false
HasNoRows (OnEnd t ran canceled faulted) = HasNoRows ran × HasNoRows canceled × HasNoRows faulted
HasNoRows (OnWinner n x on_yes on_no) = HasNoRows on_yes × HasNoRows on_no
HasNoRows (RowsLeaf rows) = ⊥
HasNoRows LeastLeaf = ⊤

-- the tree has splits of the graph, at most n on each path, and no rows
pub record IsPlan (g : TaskGraph) (n : ℕ) (tree : Tree) : Type 0 where
  pub splits : HasSplitsOf g tree
  pub height : height tree ≤ n
  pub rows : HasNoRows tree

-- what is found is such a plan, if the search ends and finds one
abbrev pub IsPlanIfAny : {E : Type 0} → TaskGraph → ℕ → Result (Option Tree) E → Type 0
IsPlanIfAny g n result = IfOk result (λ found. IfSome found (IsPlan g n))
