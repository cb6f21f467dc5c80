-- The leaf whose bodies were read last.
use Rattle.std.specs.Prelude.{◌≡◌, length}
use Rattle.tpl_model.specs.Graph.{TaskGraph}
use Rattle.tpl_checker.specs.declared.last.LastLeaf.{LastLeaf}
use Rattle.tpl_checker.specs.Assumptions.{assumed_of}
use Rattle.tpl_model.specs.Certificate.{plain}
use Rattle.tpl_checker.specs.Bodies.{AreBodies}

-- the leaf has a row for each task of the graph, and its bodies are the graph's
pub record IsLast (g : TaskGraph) (leaf : LastLeaf) : Type 0 where
  pub rows : length (plain leaf.rows.now) ≡ length g.tasks
  pub bodies : AreBodies g (assumed_of leaf.assumed) (plain leaf.rows.now) leaf.bodies
