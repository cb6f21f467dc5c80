use Rattle.std.proofs.Common.{rules}
use Rattle.tpl_json.specs.View.{view}
use Rattle.tpl_json.proofs.Reading.{each_gives}
use Rattle.tpl_draft.specs.SeenTasks.{token_of}
use Rattle.tpl_parts.specs.Tasks.{token_at}
use Rattle.tpl_reader.proofs.top.tokens_of.Goals as goal

pub returns : goal.returns
returns c = each_gives (token_at c.args.links) view token_of c.read_each.ensures (λ n x r k. search rules)
