use Rattle.std.proofs.Common.{length}
use Rattle.tpl_token_leaf.specs.Leaf.{graph_of, rows_in}
use Rattle.tpl_token_leaf.proofs.PastLemmas.{AfterSome}
use Rattle.tpl_token_leaf.proofs.past.after_some.Given as goal

abbrev pub invariant-loop-task : goal.invariant-loop-task
invariant-loop-task l = AfterSome (length (graph_of l.leaf).tasks) (rows_in l.leaf) l.tasks l.task-index l.facts
