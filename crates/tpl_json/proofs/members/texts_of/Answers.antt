use Rattle.std.proofs.Common.{rules}
use Rattle.serde_json.specs.Find.{as_str}
use Rattle.tpl_json.specs.View.{view}
use Rattle.tpl_json.proofs.Reading.{each_gives}
use Rattle.tpl_json.proofs.members.texts_of.Goals as goal

pub returns : goal.returns
returns c = each_gives as_str view (λ s. s.now) c.read_each.ensures (λ n x r k. search rules)
