use Rattle.std.proofs.Common.{rules}
use Rattle.tpl_json.specs.View.{view}
use Rattle.tpl_json.proofs.Reading.{each_gives_same}
use Rattle.tpl_reader.specs.Top.{whole_at}
use Rattle.tpl_reader.proofs.top.wholes_of.Goals as goal

pub returns : goal.returns
returns c = each_gives_same whole_at view c.read_each.ensures (λ n x r k. search rules)
