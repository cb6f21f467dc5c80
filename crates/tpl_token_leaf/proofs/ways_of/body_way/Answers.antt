use Rattle.std.proofs.Common.{refl, sym, ◌∙◌}
use Rattle.tpl_model.specs.Graph.{kind}
use Rattle.tpl_model.specs.TokenRules.{ByBody}
use Rattle.tpl_paths.specs.Knowledge.{knowledge_of}
use Rattle.tpl_token_leaf.specs.Leaf.{graph_of}
use Rattle.tpl_token_leaf.specs.LeafRules.{holds_as}
use Rattle.tpl_token_leaf.proofs.WayLemmas.{no_paths, not_left, some_paths, or_three}
use Rattle.tpl_token_leaf.proofs.ways_of.body_way.Goals as goal

pub returns-then-not-may_end : goal.returns-then-not-may_end
returns-then-not-may_end c = not_left _ _ _ _ (sym c.may_end.ensures ∙ c.if-not-may_end.true) (c.none.ensures _)

pub returns-in-None : goal.returns-in-None
returns-in-None c = no_paths _ _ _ _ (ByBody c.args.status) (sym c.may_end.ensures ∙ c.if-not-may_end.false) c.in-None.ensures (c.none-in-None.ensures _)

pub returns-in-Some : goal.returns-in-Some
returns-in-Some c =
    let holds = holds_as c.args.leaf.now c.args.task.0 (kind (graph_of c.args.leaf.now) c.args.task.0) in
    let way = ByBody c.args.status (knowledge_of c.in-Some.known) in
    some_paths holds c.one.result _ _ (ByBody c.args.status) (sym c.may_end.ensures ∙ c.if-not-may_end.false) (knowledge_of c.in-Some.known) c.in-Some.ensures
    (c.one.ensures holds way refl (λ fact. or_three _ _ _ _ _ (c.requires.begun fact) (c.union.ensures fact)))
