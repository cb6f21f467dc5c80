-- A leaf in memory.
use Rattle.std.specs.Prelude.{◌≡◌, ℕ, ◌<◌, Bool, List, length, Some, slice_get}
use Rattle.std.specs.Option.{option_map}
use Rattle.tpl_model.specs.Members.{mem}
use Rattle.tpl_model.specs.Knowledge.{Fact, IsSettled, IsRequested, ChildEnd}
use Rattle.tpl_model.specs.Graph.{TaskGraph}
use Rattle.tpl_model.specs.Certificate.{row, Row, plain}
use Rattle.tpl_model.specs.TokenRules.{LeafAssumed, ends_with}
use Rattle.tpl_paths.specs.Reading.{end_of}
use Rattle.tpl_checker.specs.declared.assumptions.Assumptions.{Assumptions}
use Rattle.tpl_checker.specs.Assumptions.{assumed_of}
use Rattle.tpl_checker.specs.Below.{AreBelow}
use Rattle.tpl_token_leaf.specs.declared.leaf.Leaf.{Leaf}
use Rattle.tpl_token_leaf.specs.declared.winners.WinnerSplit.{WinnerSplit}
use Rattle.tpl_token_leaf.specs.Winners.{all_leave}
use Rattle.tpl_token_leaf.specs.Links.{AreLinks}

-- the facts that hold when a task has ended, and how it ends, by its row
abbrev pub row_facts : Row → Fact → Bool
row_facts r (IsSettled x) = mem x r.row.past
row_facts r (IsRequested k) = mem k r.asks

abbrev pub row_end : Row → ChildEnd
row_end r = record { ends = r.row.ends; facts = row_facts r }

-- what is assumed in memory, with splits on winners
abbrev pub leaf_assumed : Assumptions → List WinnerSplit → LeafAssumed
leaf_assumed a splits = record { assumed = assumed_of a; wins = all_leave splits }

abbrev pub graph_of : Leaf → TaskGraph
graph_of leaf = leaf.graph.now.graph

abbrev pub assumed_in : Leaf → LeafAssumed
assumed_in leaf = leaf_assumed leaf.assumed.now leaf.winners.now

abbrev pub rows_in : Leaf → List Row
rows_in leaf = leaf.rows.now

-- the leaf has a row for each task, and what is read off graph and rows is theirs
pub record IsLeaf (leaf : Leaf) : Type 0 where
  pub rows : length (rows_in leaf) ≡ length (graph_of leaf).tasks
  pub linked : AreLinks (graph_of leaf) leaf.linked.now
  pub ends : (t : ℕ) → t < length (graph_of leaf).tasks
      → option_map end_of (slice_get leaf.ends.now t) ≡ Some (record { ends = (row (plain (rows_in leaf)) t).ends; facts = ends_with (rows_in leaf) t })
  pub below : AreBelow (graph_of leaf) leaf.below.now
