-- How deep a tree splits, and how long its chains are.
use Rattle.std.specs.Prelude.{ℕ, ◌≤◌, ◌&&◌, suc, max, length, Bool, true, nat_le}
use Rattle.std.specs.List.{All, list_all}
use Rattle.tpl_model.specs.declared.limits.TheConstants.{MOST_IN_CHAIN, MOST_SPLITS}
use Rattle.tpl_model.specs.Certificate.{Row, Tree, OnInput, OnEnd, OnWinner, RowsLeaf, LeastLeaf}

-- the splits above the deepest leaf
abbrev pub height : Tree → ℕ
height (OnInput i on_true on_false) = suc (max (height on_true) (height on_false))
height (OnEnd t ran canceled faulted) = suc (max (height ran) (max (height canceled) (height faulted)))
height (OnWinner n x on_yes on_no) = suc (max (height on_yes) (height on_no))
height (RowsLeaf rows) = 0
height LeastLeaf = 0

-- no chain has more than MOST_IN_CHAIN tasks
abbrev pub HasShortChain : Row → Type 0
HasShortChain r = length r.row.chain ≤ MOST_IN_CHAIN

abbrev pub HasShortChains : Tree → Type 0
HasShortChains (OnInput i on_true on_false) = HasShortChains on_true × HasShortChains on_false
HasShortChains (OnEnd t ran canceled faulted) = HasShortChains ran × HasShortChains canceled × HasShortChains faulted
HasShortChains (OnWinner n x on_yes on_no) = HasShortChains on_yes × HasShortChains on_no
HasShortChains (RowsLeaf rows) = All HasShortChain rows
HasShortChains LeastLeaf = Unit {0}

-- within the limits: at most MOST_SPLITS splits on each path
abbrev pub IsWithinLimits : Tree → Type 0
IsWithinLimits tree = (height tree ≤ MOST_SPLITS) × HasShortChains tree

-- the same, as a test
abbrev pub has_short_chain : Row → Bool
has_short_chain r = nat_le (length r.row.chain) MOST_IN_CHAIN

abbrev pub has_short_chains : Tree → Bool
has_short_chains (OnInput i on_true on_false) = has_short_chains on_true && has_short_chains on_false
has_short_chains (OnEnd t ran canceled faulted) = has_short_chains ran && (has_short_chains canceled && has_short_chains faulted)
has_short_chains (OnWinner n x on_yes on_no) = has_short_chains on_yes && has_short_chains on_no
has_short_chains (RowsLeaf rows) = list_all has_short_chain rows
has_short_chains LeastLeaf = true

abbrev pub is_within_limits : Tree → Bool
is_within_limits tree = nat_le (height tree) MOST_SPLITS && has_short_chains tree
