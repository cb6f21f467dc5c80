use Rattle.std.proofs.Common.{◌≡◌, IfOk, length, subst, sym}
use Rattle.tpl_model.specs.declared.rule_set.RuleSet.{RuleSet}
use Rattle.tpl_laws.specs.ByRules.{written_by}
use Rattle.tpl_draw.specs.Endings.{endings}
use Rattle.tpl_draw.proofs.ending.endings_by.Goals as goal

pub returns-in-WithoutTokens : goal.returns-in-WithoutTokens
returns-in-WithoutTokens c =
    let g = c.args.graph.now.graph in
    let trees = c.args.trees.now in
    let of_graph = subst (λ n. IfOk c.endings.result (λ found. found.items ≡ endings trees n)) c.len.ensures.count c.endings.ensures in
    subst (λ (z : RuleSet). IfOk c.endings.result (λ found. found.items ≡ endings (written_by z g c.args.claims.now trees) (length g.tasks))) (sym c.in-WithoutTokens.is) of_graph

pub returns-in-WithTokens : goal.returns-in-WithTokens
returns-in-WithTokens c =
    let g = c.args.graph.now.graph in
    subst (λ (z : RuleSet). IfOk c.token_endings.result (λ found. found.items ≡ endings (written_by z g c.args.claims.now c.args.trees.now) (length g.tasks))) (sym c.in-WithTokens.is) c.token_endings.ensures
