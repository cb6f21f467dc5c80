use Rattle.std.proofs.Common.{sym}
use Rattle.tpl_parts.specs.SeenClaims.{given_of}
use Rattle.tpl_reader.specs.Asked.{is_no_request}
use Rattle.tpl_reader.proofs.Singles.{any_stops, any_more}
use Rattle.tpl_reader.proofs.asked.says_no_request.Goals as goal

pub returns-then-is_no_request : goal.returns-then-is_no_request
returns-then-is_no_request c = sym (any_stops is_no_request given_of c.args.given.now c.loop-one.one-index _ c.loop-one-test.true (sym c.if-is_no_request.ensures))

pub loop-one-preserved : goal.loop-one-preserved
loop-one-preserved c = any_more is_no_request given_of c.args.given.now c.loop-one.one-index _ c.loop-one-test.true c.loop-one.invariant (sym c.if-is_no_request.ensures)
