use Rattle.std.proofs.Common.{◌&&◌, length, ap, sym, ◌∙◌}
use Rattle.tpl_checker.proofs.Basics.{next_task}
use Rattle.tpl_token_leaf.specs.Leaf.{graph_of, assumed_in, rows_in}
use Rattle.tpl_token_leaf.specs.Ways.{holds_in_all}
use Rattle.tpl_token_leaf.proofs.PastLemmas.{no_end, with_end_of, without_end}
use Rattle.tpl_token_leaf.proofs.past.after_winners.Goals.{then-may_end_it, else-may_end_it}
use Rattle.tpl_token_leaf.proofs.past.after_winners.Goals as goal

pub loop-arg-init : goal.loop-arg-init
loop-arg-init c = no_end (length (graph_of c.args.leaf.now).tasks) ((assumed_in c.args.leaf.now).wins c.args.task.0) (rows_in c.args.leaf.now) c.args.args.now c.requires.args

pub may_end_it-requires-clause-argument : goal.may_end_it-requires-clause-argument
may_end_it-requires-clause-argument c = next_task c.args.args.now c.loop-arg.arg-index _ c.loop-arg-test.true (length (graph_of c.args.leaf.now).tasks) c.loop-arg.invariant.left

pub once_ended-requires-clause-task : goal.once_ended-requires-clause-task
once_ended-requires-clause-task c = next_task c.args.args.now c.loop-arg.arg-index _ c.loop-arg-test.true (length (graph_of c.args.leaf.now).tasks) c.loop-arg.invariant.left

pub loop-arg-preserved : goal.loop-arg-preserved
loop-arg-preserved c = elim c.if-may_end_it.branch [
  | then-may_end_it w ↦
      rw w.facts-is
      (with_end_of _ c.loop-arg-test.true c.loop-arg.invariant w.common-facts.result (sym w.if-may_end_it.true ∙ c.may_end_it.ensures)
      (λ f. w.common-facts.ensures f ∙ ap (λ z. holds_in_all c.loop-arg.facts f && z) (w.once_ended.ensures f)))
  | else-may_end_it w ↦ rw w.facts-is (without_end _ c.loop-arg-test.true c.loop-arg.invariant (sym w.if-may_end_it.false ∙ c.may_end_it.ensures))
]
