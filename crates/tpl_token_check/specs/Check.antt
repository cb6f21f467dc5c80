-- What is the same for all leaves of a tree, in memory.
use Rattle.tpl_model.specs.Graph.{TaskGraph}
use Rattle.tpl_graph.specs.Fits.{TasksOf}
use Rattle.tpl_checker.specs.Below.{AreBelow}
use Rattle.tpl_token_leaf.specs.Links.{AreLinks}
use Rattle.tpl_token_check.specs.declared.check.Check.{Check}

abbrev pub graph_in : Check → TaskGraph
graph_in check = check.graph.now.graph

pub record IsCheck (check : Check) : Type 0 where
  pub tasks : TasksOf (graph_in check) check.property
  pub below : AreBelow (graph_in check) check.below.now
  pub linked : AreLinks (graph_in check) check.linked.now
