use Rattle.std.proofs.Common.{◌||◌, ap, sym, ◌∙◌, length}
use Rattle.tpl_model.specs.Finals.{has}
use Rattle.tpl_checker.proofs.Basics.{next_task}
use Rattle.tpl_token_leaf.specs.Leaf.{graph_of}
use Rattle.tpl_token_leaf.proofs.Winning.{with_winner, without_loser}
use Rattle.tpl_token_leaf.proofs.leaf.Leaf.winner_ends.Goals.{then-may_win, else-may_win}
use Rattle.tpl_token_leaf.proofs.leaf.Leaf.winner_ends.Goals as goal

pub row-requires-clause-task : goal.row-requires-clause-task
row-requires-clause-task c = next_task c.args.args.now c.loop-arg.arg-index _ c.loop-arg-test.true (length (graph_of c.args.self.now).tasks) c.loop-arg.invariant.left

pub loop-arg-preserved : goal.loop-arg-preserved
loop-arg-preserved c = elim c.if-may_win.branch [
  | then-may_win w ↦
      rw w.finals-is
      (with_winner _ c.loop-arg-test.true c.loop-arg.invariant w.union-finals.result (sym c.may_win.ensures ∙ w.if-may_win.true)
      (λ f. w.union-finals.ensures f ∙ ap (λ s. has c.loop-arg.finals f || has s f) (w.ends.ensures ∙ ap (λ r. r.ends) w.row.ensures)))
  | else-may_win w ↦ rw w.finals-is (without_loser _ c.loop-arg-test.true c.loop-arg.invariant (sym c.may_win.ensures ∙ w.if-may_win.false))
]
