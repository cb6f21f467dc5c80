use Rattle.std.proofs.Common.{◌≡◌, ◌<◌, length, arith}
use Rattle.std.proofs.lemmas.List.{length-map}
use Rattle.tpl_model.specs.Certificate.{Row, plain}
use Rattle.tpl_checker.proofs.TreeLemmas.{chain_fits}
use Rattle.tpl_token_leaf.specs.Leaf.{graph_of, rows_in}
use Rattle.tpl_token_leaf.proofs.fault.broken.Goals as goal

pub chain-requires-clause-ids : goal.chain-requires-clause-ids
chain-requires-clause-ids c =
    let rows = rows_in c.args.leaf.now in
    let many : length (plain rows) ≡ length rows = length-map rows (λ (r : Row). r.row) in
    let has_row : c.args.task.0 < length (plain rows) = omega arith in
    chain_fits (graph_of c.args.leaf.now) (plain rows) c.args.task.0 c.requires.ids has_row
