use Rattle.std.proofs.Common.{◌∙◌, length, [], true, ap, subst, arith}
use Rattle.std.specs.List.{All}
use Rattle.std.proofs.lemmas.List.Elements.{All-tail}
use Rattle.tpl_graph.specs.Fits.{Fits}
use Rattle.tpl_laws.specs.TokenTrees.{all_written}
use Rattle.tpl_model.specs.TokenRules.{assumed_with_tokens}
use Rattle.tpl_token_leaf.specs.Leaf.{leaf_assumed}
use Rattle.tpl_token_check.specs.Check.{graph_in}
use Rattle.tpl_draw.proofs.EachTask.{accepted_parts, joins_first, joins_none, no_claims, same_accepts}
use Rattle.tpl_draw.proofs.token_ending.+ends_in_trees.Goals as goal

pub returns-in_default : goal.returns-in_default
returns-in_default t c =
    let g = c.args.graph.now.graph in
    joins_none (all_written g c.args.claims.now c.args.trees.now) (length g.tasks) c.len.result c.endings.result
    (no_claims g c.args.claims.now c.args.trees.now c.in_default.ensures.cases) c.len.ensures.count c.endings.ensures

pub ends_in_trees-requires : goal.ends_in_trees-requires
ends_in_trees-requires t c =
    let g = c.args.graph.now.graph in
    let claim = c.in-Some.claim.now in
    let tree = c.in-Some-split_first.tree.now in
    let more = c.in-Some.more.now in
    let others = c.in-Some-split_first.others.now in
    let accepted = accepted_parts g c.args.claims.now more c.args.trees.now others claim tree c.in-Some.ensures.cases.0 c.in-Some-split_first.ensures.cases.0 c.requires.accepted in
    (omega (arith, c.decreases, c.in-Some.ensures.cases.1), (c.requires.below, (c.requires.linked, (All-tail (Fits g) claim more (subst (All (Fits g)) c.in-Some.ensures.cases.0 c.requires.claims), accepted.1))))

pub ends_in_tree-requires-clause-accepted : goal.ends_in_tree-requires-clause-accepted
ends_in_tree-requires-clause-accepted t c =
    let g = c.args.graph.now.graph in
    let claim = c.in-Some.claim.now in
    let tree = c.in-Some-split_first.tree.now in
    same_accepts g (graph_in c.new-check.result) claim.body c.new-check.result.property (assumed_with_tokens g claim) (leaf_assumed c.assumed_for-assumed.result []) tree
    (ap (λ z. z.graph) c.new-check.ensures.graph) (c.new-check.ensures.property ∙ c.body.ensures) (λ j. record { assumed = c.assumed_for-assumed.ensures j; wins = λ m y. true })
    (accepted_parts g c.args.claims.now c.in-Some.more.now c.args.trees.now c.in-Some-split_first.others.now claim tree c.in-Some.ensures.cases.0 c.in-Some-split_first.ensures.cases.0 c.requires.accepted).0

pub returns : goal.returns
returns t c =
    let g = c.args.graph.now.graph in
    let claim = c.in-Some.claim.now in
    let tree = c.in-Some-split_first.tree.now in
    joins_first g (graph_in c.new-check.result) c.new-check.result.property (leaf_assumed c.assumed_for-assumed.result []) c.args.claims.now c.in-Some.more.now c.args.trees.now c.in-Some-split_first.others.now claim tree (length g.tasks) c.as_slice.result.now c.in_ok-found.found.items c.ends_in_tree.result
    (ap (λ z. z.graph) c.new-check.ensures.graph) (c.new-check.ensures.property ∙ c.body.ensures) (λ j. record { assumed = c.assumed_for-assumed.ensures j; wins = λ m y. true })
    c.in-Some.ensures.cases.0 c.in-Some-split_first.ensures.cases.0 c.as_slice.ensures.value c.in_ok-found.ensures c.ends_in_tree.ensures
