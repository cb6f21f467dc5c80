use Rattle.std.proofs.Common.{◌∷◌, [], subst}
use Rattle.tpl_model.specs.Graph.{TaskGraph}
use Rattle.tpl_model.specs.Certificate.{LeastLeaf}
use Rattle.tpl_laws.specs.TokenTrees.{AcceptsWithTokens}
use Rattle.tpl_verify.proofs.VerdictLemmas.{always_at_once, at_once}
use Rattle.tpl_verify.proofs.verifying.is_accepted.Goals as goal

pub returns-in_ok-accepted-in-WithTokens-clause-certified : goal.returns-in_ok-accepted-in-WithTokens-clause-certified
returns-in_ok-accepted-in-WithTokens-clause-certified c so =
    at_once c.args.rules c.args.graph.now.graph c.args.claim.now c.in-WithTokens.is
    (subst (λ (g : TaskGraph). AcceptsWithTokens g (c.args.claim.now ∷ []) (LeastLeaf ∷ [])) c.requires.unsplit.graph (c.in_ok-accepted-in-WithTokens.ensures.0 so))

pub returns-in_ok-accepted-in-WithTokens-clause-always : goal.returns-in_ok-accepted-in-WithTokens-clause-always
returns-in_ok-accepted-in-WithTokens-clause-always c so =
    always_at_once c.args.graph.now.graph c.args.claim.now c.sound_by_rules.ensures c.valid_law.ensures.graph
    (subst (λ (g : TaskGraph). AcceptsWithTokens g (c.args.claim.now ∷ []) (LeastLeaf ∷ [])) c.requires.unsplit.graph (c.in_ok-accepted-in-WithTokens.ensures.0 so))
