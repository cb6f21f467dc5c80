use Rattle.std.proofs.Common.{◌∙◌}
use Rattle.tpl_paths.specs.TokenSet.{has_token}
use Rattle.tpl_paths.specs.Reading.{reading_of}
use Rattle.tpl_token_leaf.proofs.Readings.{at_end_same}
use Rattle.tpl_token_leaf.proofs.leaf.Leaf.known_at_end.Goals as goal

pub returns : goal.returns
returns c =
    c.known_at_end.ensures
    ∙ at_end_same c.args.self.now c.requires.leaf c.valid_law.ensures.graph c.args.task.0 c.readings_agree.ensures c.requires.task (reading_of c.reading-reading.result) c.reading-reading.ensures
    (has_token c.asked.result) c.asked.ensures c.body.result.now c.body.ensures c.args.status
