use Rattle.std.proofs.Common.{rules}
use Rattle.tpl_json.specs.View.{view}
use Rattle.tpl_json.proofs.Reading.{each_gives}
use Rattle.tpl_parts.specs.SeenClaims.{given_of}
use Rattle.tpl_parts.specs.Claims.{given_at}
use Rattle.tpl_parts.proofs.claims.givens_of.Goals as goal

pub returns : goal.returns
returns c = each_gives (given_at c.args.version) view given_of c.read_each.ensures (λ n x r k. search rules)
