use Rattle.tpl_verify.proofs.BesideLemmas.{within_places, zip_places}
use Rattle.tpl_verify.proofs.beside.verdicts_beside.Goals as goal

pub returns-clause-verdicts : goal.returns-clause-verdicts
returns-clause-verdicts g c =
    zip_places c.args.rules c.args.graph.now.graph c.args.claims.now c.in_ok-verdicts.verdicts.items c.in_ok-verdicts.ensures.count
    (λ i verdict there. (c.in_ok-verdicts.ensures.each i verdict there).1)

pub returns-clause-within : goal.returns-clause-within
returns-clause-within g c =
    within_places c.args.limits.now.depth c.args.limits.now.runs c.in_ok-verdicts.verdicts.items (λ i verdict there. (c.in_ok-verdicts.ensures.each i verdict there).0)
