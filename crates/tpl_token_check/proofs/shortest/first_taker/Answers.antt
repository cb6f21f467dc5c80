use Rattle.std.proofs.Common.{◌<◌, ◌&&◌, length, sym, ◌∙◌, arith}
use Rattle.tpl_model.specs.Members.{mem}
use Rattle.tpl_laws.specs.RowTests.{takes_over}
use Rattle.tpl_token_leaf.specs.Leaf.{graph_of}
use Rattle.tpl_token_check.proofs.LevelLemmas.{found_here, not_here}
use Rattle.tpl_token_check.proofs.shortest.first_taker.Goals as goal

pub returns-then-takes_from : goal.returns-then-takes_from
returns-then-takes_from c =
    let g = graph_of c.args.leaf.now in
    let lt : c.loop-number.number < length g.tasks = omega arith in
    found_here (λ x. takes_over g x c.args.task.0 && mem x c.args.takers.now) (length g.tasks) c.loop-number.number lt c.loop-number.invariant (sym c.takes_from.ensures ∙ c.if-takes_from.true)

pub loop-number-preserved : goal.loop-number-preserved
loop-number-preserved c =
    let g = graph_of c.args.leaf.now in
    let lt : c.loop-number.number < length g.tasks = omega arith in
    not_here (λ x. takes_over g x c.args.task.0 && mem x c.args.takers.now) (length g.tasks) c.loop-number.number lt c.loop-number.invariant (sym c.takes_from.ensures ∙ c.if-takes_from.false)
