use Rattle.std.proofs.Common.{◌∙◌}
use Rattle.tpl_token_leaf.specs.Leaf.{assumed_in}
use Rattle.tpl_token_leaf.proofs.leaf.Leaf.view.Goals as goal

pub returns : goal.returns
returns c =
    let l = (assumed_in c.args.self.now).assumed in
    c.view.ensures ∙ (λ i. record { possible = l.possible; quiet = l.quiet; own = c.own_token-own.ensures i; subject = λ f. c.subject.ensures f i; sure = l.sure })
