use Rattle.std.proofs.Common.{◌≡◌, length, ap, ◌∙◌, arith}
use Rattle.tpl_model.specs.Valid.{all_sites}
use Rattle.tpl_graph.proofs.ReaderLemmas.{length-numbers_from}
use Rattle.tpl_audit.proofs.watch.note_failures.Goals as goal

pub has_failed-requires : goal.has_failed-requires
has_failed-requires g c =
    let n = c.graph-graph.result.now in
    let same : length (all_sites n.graph) ≡ length (all_sites (g.C.Core.journal c.args.core.now).graph) = ap (λ z. length (all_sites z.graph)) c.graph-graph.ensures in
    let all : length (all_sites n.graph) ≡ length n.names.sites = ap length c.valid_law.ensures.sites_in_order ∙ length-numbers_from 0 (length n.names.sites) in
    omega arith

pub returns : goal.returns
returns g c site there =
    let n = c.graph-graph.result.now in
    let same : length (all_sites n.graph) ≡ length (all_sites (g.C.Core.journal c.args.core.now).graph) = ap (λ z. length (all_sites z.graph)) c.graph-graph.ensures in
    let all : length (all_sites n.graph) ≡ length n.names.sites = ap length c.valid_law.ensures.sites_in_order ∙ length-numbers_from 0 (length n.names.sites) in
    c.loop-i.invariant.noted site (omega (arith, there, c.loop-i-test.false, c.site_count-i-end.ensures.count))
