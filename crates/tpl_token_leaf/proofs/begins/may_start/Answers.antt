use Rattle.std.proofs.Common.{not, Option, ap, ◌∙◌}
use Rattle.tpl_model.specs.Knowledge.{Knowledge}
use Rattle.tpl_model.specs.TokenRules.{own_among}
use Rattle.tpl_laws.specs.RowTests.{implies}
use Rattle.tpl_laws.specs.TokenTests.{if_known}
use Rattle.tpl_token_leaf.specs.Leaf.{graph_of}
use Rattle.tpl_token_leaf.proofs.begins.may_start.Goals as goal

pub returns-in-None : goal.returns-in-None
returns-in-None c r = ap (λ (o : Option Knowledge). if_known o (λ known. implies (not (own_among (graph_of c.args.leaf.now) c.args.child.0 known.requested)) r)) c.in-None.ensures

pub returns-in-Some : goal.returns-in-Some
returns-in-Some c r =
    ap (λ z. implies (not z) r) c.own_among.ensures
    ∙ ap (λ (o : Option Knowledge). if_known o (λ known. implies (not (own_among (graph_of c.args.leaf.now) c.args.child.0 known.requested)) r)) c.in-Some.ensures
