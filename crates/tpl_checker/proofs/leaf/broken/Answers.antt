use Rattle.std.proofs.Common.{◌<◌, length, arith}
use Rattle.tpl_checker.proofs.TreeLemmas.{chain_fits}
use Rattle.tpl_model.specs.Certificate.{plain}
use Rattle.tpl_checker.proofs.leaf.broken.Goals as goal

pub chain-requires-clause-ids : goal.chain-requires-clause-ids
chain-requires-clause-ids c =
    let has_row : c.args.task.0 < length (plain c.args.rows.now) = omega arith in
    chain_fits c.args.graph.now.graph (plain c.args.rows.now) c.args.task.0 c.requires.ids has_row
