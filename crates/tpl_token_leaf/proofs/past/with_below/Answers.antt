use Rattle.std.proofs.Common.{◌≡◌, ◌||◌, ap, ◌∙◌, refl}
use Rattle.tpl_model.specs.Members.{mem}
use Rattle.tpl_model.specs.Knowledge.{Fact}
use Rattle.tpl_paths.specs.Facts.{has_fact}
use Rattle.tpl_laws.specs.TokenTests.{settled_below}
use Rattle.tpl_checker.proofs.Settling.{below_it}
use Rattle.tpl_token_leaf.specs.Leaf.{graph_of}
use Rattle.tpl_token_leaf.proofs.Rows.{by_fact}
use Rattle.tpl_token_leaf.proofs.past.with_below.Goals as goal

pub returns : goal.returns
returns c =
    let below = below_it (graph_of c.args.leaf.now) c.args.leaf.now.below.now c.args.task.0 c.of.result.now c.requires.leaf.below c.valid_law.ensures.graph c.requires.task c.of.ensures in
    by_fact (λ (f : Fact). has_fact (record { tasks = c.union.result; tokens = c.args.facts.now.tokens }) f ≡ (settled_below (graph_of c.args.leaf.now) c.args.task.0 f || has_fact c.args.facts.now f))
    (λ x. c.union.ensures.members x ∙ ap (λ z. z || mem x c.args.facts.now.tasks) (below x))
    (λ k. refl)
