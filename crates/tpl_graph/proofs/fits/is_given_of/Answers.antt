use Rattle.std.proofs.Common.{◌≡◌, ◌<◌, length, ap, ◌∙◌, arith}
use Rattle.std.proofs.lemmas.Bool.{ltb-true, lt-ltb}
use Rattle.tpl_model.specs.Valid.{all_sites}
use Rattle.tpl_graph.proofs.ReaderLemmas.{length-numbers_from}
use Rattle.tpl_graph.proofs.fits.is_given_of.Goals as goal

pub returns-in-Succeeds : goal.returns-in-Succeeds
returns-in-Succeeds c =
    let n = c.args.graph.now in
    let all : length (all_sites n.graph) ≡ length n.names.sites = ap length c.valid_law.ensures.sites_in_order ∙ length-numbers_from 0 (length n.names.sites) in
    let count : c.site_count.result ≡ length n.names.sites = c.site_count.ensures.count in
    rw c.in-Succeeds.is (
      (λ e. let lt : c.in-Succeeds.field-0.0 < c.site_count.result = ltb-true c.in-Succeeds.field-0.0 c.site_count.result e in omega arith),
      (λ lt. lt-ltb c.in-Succeeds.field-0.0 c.site_count.result (omega arith)),
    )
