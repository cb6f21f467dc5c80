use Rattle.std.proofs.Common.{rules, string_bytes}
use Rattle.serde_json.specs.Find.{as_str}
use Rattle.tpl_json.specs.View.{view}
use Rattle.tpl_json.proofs.Reading.{each_gives}
use Rattle.tpl_json.proofs.members.owned_texts.Goals as goal

pub returns : goal.returns
returns c = each_gives as_str view string_bytes c.read_each.ensures (λ n x r k. search rules)
