use Rattle.std.proofs.Common.{Bool}
use Rattle.tpl_model.specs.TokenRules.{Way}
use Rattle.tpl_token_leaf.proofs.ways_of.canceled_if.Goals as goal

pub returns : goal.returns
returns c way holds e h = c.only_if.ensures holds (λ (passes : Way → Bool). passes way) (c.one.ensures holds way e h)
