-- What is searched for.
use Rattle.std.specs.List.{All}
use Rattle.tpl_graph.specs.Fits.{TasksOf}
use Rattle.tpl_checker.specs.Below.{AreBelow}
use Rattle.tpl_analyser.specs.declared.question.Question.{Question}
use Rattle.tpl_analyser.specs.Splits.{IsSplitOf}
use Rattle.tpl_outline.specs.Stages.{IsStageOf}
use Rattle.tpl_token_leaf.specs.Links.{AreLinks}

-- the property is one of the graph's tasks, and the rest is made of the graph
pub record IsReady (q : Question) : Type 0 where
  pub tasks : TasksOf q.graph.now.graph q.property
  pub below : AreBelow q.graph.now.graph q.below.now
  pub stages : All (IsStageOf q.graph.now.graph) q.stages.now
  pub splits : All (IsSplitOf q.graph.now.graph) q.splits.now
  pub linked : AreLinks q.graph.now.graph q.linked.now
