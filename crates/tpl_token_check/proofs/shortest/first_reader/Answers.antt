use Rattle.std.proofs.Common.{◌<◌, length, sym, ◌∙◌, arith}
use Rattle.tpl_laws.specs.LeastRows.{is_reader}
use Rattle.tpl_token_leaf.specs.Leaf.{graph_of, assumed_in}
use Rattle.tpl_token_check.proofs.LevelLemmas.{found_here, not_here}
use Rattle.tpl_token_check.proofs.shortest.first_reader.Goals as goal

pub returns-then-reads_from : goal.returns-then-reads_from
returns-then-reads_from c =
    let g = graph_of c.args.leaf.now in
    let lt : c.loop-number.number < length g.tasks = omega arith in
    found_here (is_reader g (assumed_in c.args.leaf.now) c.args.task.0) (length g.tasks) c.loop-number.number lt c.loop-number.invariant (sym c.reads_from.ensures ∙ c.if-reads_from.true)

pub loop-number-preserved : goal.loop-number-preserved
loop-number-preserved c =
    let g = graph_of c.args.leaf.now in
    let lt : c.loop-number.number < length g.tasks = omega arith in
    not_here (is_reader g (assumed_in c.args.leaf.now) c.args.task.0) (length g.tasks) c.loop-number.number lt c.loop-number.invariant (sym c.reads_from.ensures ∙ c.if-reads_from.false)
