use Rattle.std.proofs.Common.{◌≡◌, ◌<◌, length, ap, ◌∙◌, arith}
use Rattle.tpl_model.specs.Valid.{all_sites}
use Rattle.tpl_graph.proofs.ReaderLemmas.{length-numbers_from}
use Rattle.tpl_audit.proofs.run.has_failed.Goals as goal

pub site_owner-requires : goal.site_owner-requires
site_owner-requires g c =
    let n = c.graph-graph.result.now in
    let asked : c.args.site.0 < length (all_sites (g.C.Core.journal c.args.core.now).graph) = c.requires in
    let same : length (all_sites n.graph) ≡ length (all_sites (g.C.Core.journal c.args.core.now).graph) = ap (λ z. length (all_sites z.graph)) c.graph-graph.ensures in
    let all : length (all_sites n.graph) ≡ length n.names.sites = ap length c.valid_law.ensures.sites_in_order ∙ length-numbers_from 0 (length n.names.sites) in
    omega arith
