use Rattle.tpl_laws.specs.TokenVerdict.{token_verdict}
use Rattle.tpl_token_check.proofs.TokenTreeLemmas.{if_ok, if_err}
use Rattle.tpl_token_check.proofs.verdict.check_tokens.Goals as goal

pub returns-clause-accepted : goal.returns-clause-accepted
returns-clause-accepted c =
    let g = c.args.graph.now.graph in
    if_ok (token_verdict g c.args.claims.now c.args.trees.now) _ c.verdict.result c.verdict.ensures (c.token_verdict_is_right.ensures g c.args.claims.now c.args.trees.now c.valid_law.ensures.graph).0

pub returns-clause-refused : goal.returns-clause-refused
returns-clause-refused c =
    let g = c.args.graph.now.graph in
    if_err (token_verdict g c.args.claims.now c.args.trees.now) _ c.verdict.result c.verdict.ensures (c.token_verdict_is_right.ensures g c.args.claims.now c.args.trees.now c.valid_law.ensures.graph).1

pub returns-clause-sound : goal.returns-clause-sound
returns-clause-sound c =
    let g = c.args.graph.now.graph in
    if_ok (token_verdict g c.args.claims.now c.args.trees.now) _ c.verdict.result c.verdict.ensures (c.token_verdict_is_sound.ensures g c.args.claims.now c.args.trees.now c.valid_law.ensures.graph)
