use Rattle.std.proofs.Common.{◌≡◌, ◌+◌, suc, ◌∙◌, arith}
use Rattle.tpl_model.specs.Members.{mem}
use Rattle.tpl_laws.specs.LeastRows.{is_reader}
use Rattle.tpl_token_leaf.specs.Leaf.{graph_of, assumed_in}
use Rattle.tpl_token_check.proofs.ReaderLemmas.{one_below}
use Rattle.tpl_token_check.proofs.readers.read_tasks.Goals as goal

pub loop-number-preserved : goal.loop-number-preserved
loop-number-preserved c y =
    let i = c.loop-number.number in
    let next : i + 1 ≡ suc i = omega arith in
    c.union-read.ensures.members y
    ∙ one_below (is_reader (graph_of c.args.leaf.now) (assumed_in c.args.leaf.now) y) i (i + 1) (mem y c.read_by.result) (mem y c.loop-number.read) next (c.read_by.ensures y) (c.loop-number.invariant y)
