use Rattle.std.proofs.Common.{ap, ◌∙◌, sym}
use Rattle.tpl_laws.specs.Verdict.{verdict}
use Rattle.tpl_checker.proofs.TreeLemmas.{if_ok}
use Rattle.tpl_checker.proofs.verdict.check.Goals as goal

pub returns-clause-sound : goal.returns-clause-sound
returns-clause-sound c =
    let g = c.args.graph.now.graph in
    if_ok c.verdict.result _
    (λ e. c.verdict_is_sound.ensures g c.args.claims.now c.args.certificate.now c.valid_law.ensures.graph (sym (c.verdict.ensures ∙ ap (verdict g c.args.claims.now) c.trees.ensures) ∙ e))

pub verdict-requires-clause-trees : goal.verdict-requires-clause-trees
verdict-requires-clause-trees c = rw c.trees.ensures (λ k t lt. (c.limits_law.ensures k t lt).0)
