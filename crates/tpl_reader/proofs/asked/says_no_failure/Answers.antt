use Rattle.std.proofs.Common.{sym}
use Rattle.tpl_parts.specs.SeenClaims.{given_of}
use Rattle.tpl_reader.specs.Asked.{is_no_failure}
use Rattle.tpl_reader.proofs.Singles.{any_stops, any_more}
use Rattle.tpl_reader.proofs.asked.says_no_failure.Goals as goal

pub returns-then-is_no_failure : goal.returns-then-is_no_failure
returns-then-is_no_failure c = sym (any_stops is_no_failure given_of c.args.given.now c.loop-one.one-index _ c.loop-one-test.true (sym c.if-is_no_failure.ensures))

pub loop-one-preserved : goal.loop-one-preserved
loop-one-preserved c = any_more is_no_failure given_of c.args.given.now c.loop-one.one-index _ c.loop-one-test.true c.loop-one.invariant (sym c.if-is_no_failure.ensures)
