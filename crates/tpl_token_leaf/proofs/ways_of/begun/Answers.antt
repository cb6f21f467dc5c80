use Rattle.std.proofs.Common.{◌||◌, ◌∙◌}
use Rattle.tpl_token_leaf.proofs.ways_of.begun.Goals as goal

pub returns : goal.returns
returns c f = c.union.ensures f ∙ (λ i. c.begins_with.ensures f i || c.before_begin.ensures f i)
