use Rattle.std.proofs.Common.{◌≡◌, length, arith}
use Rattle.tpl_draw.specs.Edges.{token_edges}
use Rattle.tpl_draw.proofs.AddedLemmas.{below_added}
use Rattle.tpl_draw.proofs.edges.add_tokens.Goals as goal

pub loop-number-preserved : goal.loop-number-preserved
loop-number-preserved c =
    below_added (token_edges c.args.graph.now.graph) c.loop-number.number _ _ _ c.loop-number.invariant
    (rw (← c.sources.ensures) c.in_ok-add_links.ensures)

pub returns : goal.returns
returns c =
    let e : c.loop-number.number ≡ length c.args.graph.now.graph.tokens = omega arith in
    rw (← e) c.loop-number.invariant
