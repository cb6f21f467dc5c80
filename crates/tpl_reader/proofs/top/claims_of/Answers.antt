use Rattle.std.proofs.Common.{ok_or, rules}
use Rattle.tpl_json.specs.View.{view}
use Rattle.tpl_json.proofs.Reading.{each_yields, yields_or}
use Rattle.tpl_parts.specs.SeenClaims.{claim_of}
use Rattle.tpl_parts.specs.Claims.{claim_at}
use Rattle.tpl_reader.specs.declared.fault.Part.TheVariants.{Claim}
use Rattle.tpl_reader.proofs.top.claims_of.Goals as goal

pub returns : goal.returns
returns c = each_yields (λ n d. ok_or (claim_at c.args.version d) (Claim n)) view claim_of c.read_each.ensures (λ n x r k. search (rules, yields_or))
