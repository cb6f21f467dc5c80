use Rattle.std.proofs.Common.{◌≡◌, ◌-◌, ◌||◌, suc, false, ap, ◌∙◌, subst, arith, slice_index_or}
use Rattle.tpl_model.specs.Members.{mem}
use Rattle.tpl_checker.proofs.GivenLemmas.{QuietFrom, quiet_marked, quiet_unmarked, sources_within}
use Rattle.tpl_checker.proofs.given.with_sources.Goals as goal

pub marked-quiet-requires : goal.marked-quiet-requires
marked-quiet-requires c = sources_within c.args.graph.now.graph (c.loop-token.token - 1) c.sources.result.now c.valid_law.ensures.graph c.sources.ensures

pub loop-token-preserved-then-quiet-token : goal.loop-token-preserved-then-quiet-token
loop-token-preserved-then-quiet-token c =
    let g = c.args.graph.now.graph in
    let k = c.loop-token.token - 1 in
    let next : c.loop-token.token ≡ suc k = omega arith in
    quiet_marked g c.valid_law.ensures.graph c.quiet_by_a_link.ensures c.args.quiet c.loop-token.quiet c.marked-quiet.result k
    (subst (λ n. QuietFrom g c.args.quiet c.loop-token.quiet n) next c.loop-token.invariant) c.if-quiet-token.true
    (λ j. c.marked-quiet.ensures j ∙ ap (λ xs. slice_index_or c.loop-token.quiet j false || mem j xs) c.sources.ensures)

pub loop-token-preserved : goal.loop-token-preserved
loop-token-preserved c =
    let g = c.args.graph.now.graph in
    let k = c.loop-token.token - 1 in
    let next : c.loop-token.token ≡ suc k = omega arith in
    quiet_unmarked g c.valid_law.ensures.graph c.quiet_by_a_link.ensures c.args.quiet c.loop-token.quiet c.loop-token.quiet k
    (subst (λ n. QuietFrom g c.args.quiet c.loop-token.quiet n) next c.loop-token.invariant) c.if-quiet-token.false
