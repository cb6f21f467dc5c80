use Rattle.std.proofs.Common.{◌||◌, Option, ap, sym, ◌∙◌}
use Rattle.tpl_model.proofs.Truths.{or_true}
use Rattle.tpl_paths.specs.declared.facts.Facts.{Facts}
use Rattle.tpl_laws.specs.TokenTests.{settled_below}
use Rattle.tpl_token_leaf.specs.Leaf.{graph_of}
use Rattle.tpl_token_leaf.specs.Ways.{holds_in_all}
use Rattle.tpl_token_leaf.proofs.past.in_all_ways.Goals as goal

pub returns-in-None : goal.returns-in-None
returns-in-None c f =
    let below = settled_below (graph_of c.args.leaf.now) c.args.task.0 f in
    sym (ap (λ z. below || z) (c.requires.ways.common f ∙ ap (λ (o : Option Facts). holds_in_all o f) c.in-None.is) ∙ or_true below)

pub returns-in-Some : goal.returns-in-Some
returns-in-Some c f =
    c.with_below.ensures f ∙ ap (λ z. settled_below (graph_of c.args.leaf.now) c.args.task.0 f || z) (sym (c.requires.ways.common f ∙ ap (λ (o : Option Facts). holds_in_all o f) c.in-Some.is))
