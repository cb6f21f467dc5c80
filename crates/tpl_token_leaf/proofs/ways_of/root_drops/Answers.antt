use Rattle.std.proofs.Common.{refl, sym}
use Rattle.tpl_model.specs.Graph.{Root}
use Rattle.tpl_model.specs.TokenRules.{RootDropped}
use Rattle.tpl_token_leaf.specs.LeafRules.{holds_as}
use Rattle.tpl_token_leaf.proofs.WayLemmas.{under}
use Rattle.tpl_token_leaf.proofs.ways_of.root_drops.Goals as goal

pub returns : goal.returns
returns c =
    let holds = holds_as c.args.leaf.now c.args.task.0 Root in
    under holds c.canceled_if.result RootDropped c.is_loud-loud.ensures (c.canceled_if.ensures RootDropped holds refl (λ f. sym (c.own_requested.ensures f)))
