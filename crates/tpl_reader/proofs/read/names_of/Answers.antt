use Rattle.std.proofs.Common.{string_bytes}
use Rattle.std.specs.Option.{option_map}
use Rattle.tpl_parts.specs.SeenClaims.{claim_of}
use Rattle.tpl_json.proofs.Passes.{mapped_more}
use Rattle.tpl_reader.proofs.read.names_of.Goals as goal

pub loop-claim-preserved : goal.loop-claim-preserved
loop-claim-preserved c =
    rw c.in_ok-push.ensures.items (mapped_more (λ n. option_map string_bytes n) (λ d. d.name) claim_of c.loop-claim.names.items c.args.claims.now c.loop-claim.claim-index c.claim-item.result c.in_ok-name.name c.loop-claim-test.true c.loop-claim.invariant (rw (← c.claim-item.is) c.in_ok-name.ensures.ok))
