-- A leaf whose rows are left out, in memory.
use Rattle.std.specs.Prelude.{ℕ, List, length}
use Rattle.tpl_model.specs.Graph.{TaskGraph}
use Rattle.tpl_model.specs.Certificate.{Row}
use Rattle.tpl_model.specs.TokenRules.{LeafAssumed}
use Rattle.tpl_laws.specs.RowTests.{is_below}
use Rattle.tpl_laws.specs.LeastRows.{begin_step, downwards, end_step, upwards}
use Rattle.tpl_checker.specs.Below.{AreBelow}
use Rattle.tpl_token_leaf.specs.Leaf.{leaf_assumed}
use Rattle.tpl_token_leaf.specs.Links.{AreLinks}
use Rattle.tpl_token_check.specs.declared.case.Case.{Case}
use Rattle.tpl_token_check.specs.Within.{IsAll}

abbrev pub graph_by : Case → TaskGraph
graph_by case = case.graph.now.graph

abbrev pub assumed_by : Case → LeafAssumed
assumed_by case = leaf_assumed case.assumed.now case.winners.now

-- the rows once all tasks below t have begun
abbrev pub begun_below : Case → ℕ → List Row → List Row
begun_below case t = upwards (is_below (graph_by case) t) (begin_step (graph_by case) (assumed_by case)) (length (graph_by case).tasks)

-- the rows once these have ended
abbrev pub ended_below : Case → ℕ → List Row → List Row
ended_below case t = downwards (is_below (graph_by case) t) (end_step (graph_by case) (assumed_by case) case.property) (length (graph_by case).tasks)

-- what is read off the graph is its
pub record IsCase (case : Case) : Type 0 where
  pub below : AreBelow (graph_by case) case.below.now
  pub linked : AreLinks (graph_by case) case.linked.now
  pub all : IsAll (graph_by case) case.all
