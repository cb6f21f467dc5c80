use Rattle.std.proofs.Common.{rules}
use Rattle.tpl_json.specs.View.{view}
use Rattle.tpl_json.proofs.Reading.{each_gives}
use Rattle.tpl_cert.specs.Seen.{row_of}
use Rattle.tpl_cert.specs.Reading.{row_at}
use Rattle.tpl_cert.proofs.read.rows_of.Goals as goal

pub returns : goal.returns
returns c = each_gives (row_at c.args.rules) view row_of c.read_each.ensures (λ n x r k. search rules)
