use Rattle.std.proofs.Common.{◌≡◌, ◌+◌, ◌++◌, List, [], ◌∷◌, IfSome, Option, subst, sym}
use Rattle.tpl_model.specs.Claims.{Claim}
use Rattle.tpl_model.specs.Certificate.{Tree}
use Rattle.tpl_analyser.specs.FoundFor.{IsFoundFor}
use Rattle.tpl_analyser.proofs.GapLemmas.{FoundSoFar, first_without, one_more}
use Rattle.tpl_analyser.proofs.certificate.certificate_for.Goals as goal

pub returns-in-None-clause-gap : goal.returns-in-None-clause-gap
returns-in-None-clause-gap over c =
    first_without c.args.made.now.rules c.args.graph.now.graph c.args.claims.now c.args.form c.args.depth c.loop-at.at c.loop-at.trees.items c.index-claims-at.result c.loop-at-test.true c.loop-at.invariant

pub loop-at-preserved : goal.loop-at-preserved
loop-at-preserved over c =
    let rules = c.args.made.now.rules in
    let g = c.args.graph.now.graph in
    let claim = c.index-claims-at.result in
    let tree = c.in-Some.tree in
    let of_claim : IsFoundFor rules g claim c.args.form c.args.depth tree =
    subst (λ (o : Option Tree). IfSome o (IsFoundFor rules g claim c.args.form c.args.depth)) c.in-Some.is c.in_ok-tree.ensures in
    let found = subst (λ (k : Claim). IsFoundFor rules g k c.args.form c.args.depth tree) c.index-claims-at.is of_claim in
    let pushed : c.push.new.self.items ≡ c.loop-at.trees.items ++ tree ∷ [] = c.in_ok-push-in-Some.ensures.items in
    subst (λ (trees : List Tree). FoundSoFar rules g c.args.claims.now c.args.form c.args.depth (c.loop-at.at + 1) trees) (sym pushed)
    (one_more rules g c.args.claims.now c.args.form c.args.depth c.loop-at.at c.loop-at.trees.items claim c.loop-at-test.true c.loop-at.invariant tree c.requires.depth found)
