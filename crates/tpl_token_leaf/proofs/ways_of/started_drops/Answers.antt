use Rattle.std.proofs.Common.{◌||◌, refl, sym, ap, ◌∙◌}
use Rattle.tpl_model.specs.Graph.{Child}
use Rattle.tpl_model.specs.TokenRules.{ChildDropped}
use Rattle.tpl_laws.specs.TokenTests.{known_there}
use Rattle.tpl_paths.specs.Knowledge.{knowledge_of}
use Rattle.tpl_token_leaf.specs.LeafRules.{holds_as}
use Rattle.tpl_token_leaf.proofs.WayLemmas.{no_paths, not_left, some_paths}
use Rattle.tpl_token_leaf.proofs.ways_of.started_drops.Goals as goal

pub returns-then-not-may_drop : goal.returns-then-not-may_drop
returns-then-not-may_drop c = not_left _ _ _ _ (sym c.may_drop.ensures ∙ c.if-not-may_drop.true) (c.none.ensures _)

pub returns-in-None : goal.returns-in-None
returns-in-None c = no_paths _ _ _ _ (ChildDropped c.args.parent.0) (sym c.may_drop.ensures ∙ c.if-not-may_drop.false) c.in-None.ensures (c.none-in-None.ensures _)

pub returns-in-Some : goal.returns-in-Some
returns-in-Some c =
    let known = knowledge_of c.in-Some.known in
    let holds = holds_as c.args.leaf.now c.args.task.0 Child in
    some_paths holds c.canceled_if.result _ _ (ChildDropped c.args.parent.0) (sym c.may_drop.ensures ∙ c.if-not-may_drop.false) known c.in-Some.ensures
    (c.canceled_if.ensures (ChildDropped c.args.parent.0 known) holds refl
    (λ f. sym (c.union.ensures f ∙ (λ i. c.own_requested.ensures f i || (c.with_known-before.ensures f ∙ ap (λ z. z || known_there known f) (c.settled_before.ensures f)) i))))
