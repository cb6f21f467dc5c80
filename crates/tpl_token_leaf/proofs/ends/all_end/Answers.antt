use Rattle.std.proofs.Common.{length, ap, ◌∙◌, arith}
use Rattle.tpl_model.specs.Finals.{has}
use Rattle.tpl_model.specs.Certificate.{plain}
use Rattle.tpl_checker.specs.AllEnds.{with_argument}
use Rattle.tpl_checker.proofs.AllEndLemmas.{by_all, by_next, by_none}
use Rattle.tpl_checker.proofs.Basics.{drop_all, next_task}
use Rattle.tpl_token_leaf.specs.Leaf.{graph_of, rows_in}
use Rattle.tpl_token_leaf.proofs.ends.all_end.Goals as goal

pub loop-arg-init : goal.loop-arg-init
loop-arg-init c = by_none (length (graph_of c.args.leaf.now).tasks) (plain (rows_in c.args.leaf.now)) c.args.args.now c.none-found.result c.requires.args c.none-found.ensures

pub row-requires-clause-task : goal.row-requires-clause-task
row-requires-clause-task c = next_task c.args.args.now c.loop-arg.arg-index _ c.loop-arg-test.true (length (graph_of c.args.leaf.now).tasks) c.loop-arg.invariant.left

pub loop-arg-preserved : goal.loop-arg-preserved
loop-arg-preserved c =
    by_next c.with-found.result _ c.loop-arg-test.true c.loop-arg.invariant (c.with-found.ensures ∙ ap (with_argument c.loop-arg.found) (c.ends.ensures ∙ ap (λ r. r.ends) c.row.ensures))

pub returns : goal.returns
returns c f = ap (λ e. has e f) c.ends-2.ensures ∙ by_all (drop_all c.args.args.now c.loop-arg.arg-index (omega arith)) c.loop-arg.invariant f
