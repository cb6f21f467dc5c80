use Rattle.std.proofs.Common.{sym}
use Rattle.tpl_parts.specs.SeenClaims.{claim_of}
use Rattle.tpl_reader.specs.Asked.{is_same_name}
use Rattle.tpl_reader.proofs.Singles.{any_stops, any_more}
use Rattle.tpl_reader.proofs.asked.has_name_of.Goals as goal

pub returns-then-is_same_name : goal.returns-then-is_same_name
returns-then-is_same_name c = sym (any_stops (λ b. is_same_name b.name (claim_of c.args.claim.now).name) claim_of c.args.before.now c.loop-one.one-index c.one-item.result c.loop-one-test.true (rw (← c.one-item.is) (sym c.if-is_same_name.ensures)))

pub loop-one-preserved : goal.loop-one-preserved
loop-one-preserved c = any_more (λ b. is_same_name b.name (claim_of c.args.claim.now).name) claim_of c.args.before.now c.loop-one.one-index c.one-item.result c.loop-one-test.true c.loop-one.invariant (rw (← c.one-item.is) (sym c.if-is_same_name.ensures))
