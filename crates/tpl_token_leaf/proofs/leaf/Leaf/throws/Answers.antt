use Rattle.std.proofs.Common.{◌∙◌, ap}
use Rattle.std.specs.Prelude.{is_some}
use Rattle.tpl_paths.specs.TokenSet.{has_token}
use Rattle.tpl_paths.specs.Reading.{reading_of}
use Rattle.tpl_token_leaf.proofs.Readings.{at_throw_same, some_told}
use Rattle.tpl_token_leaf.proofs.leaf.Leaf.throws.Goals as goal

pub returns : goal.returns
returns c =
    c.is_some.ensures
    ∙ (some_told c.known_at_throw.result
    ∙ ap is_some
    (c.known_at_throw.ensures
    ∙ at_throw_same c.args.self.now c.requires.leaf c.valid_law.ensures.graph c.args.task.0 c.readings_agree.ensures c.requires.task (reading_of c.reading-reading.result) c.reading-reading.ensures
    (has_token c.asked.result) c.asked.ensures c.body.result.now c.body.ensures))
