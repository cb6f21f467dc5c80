use Rattle.tpl_verify.proofs.EmptyLemmas.{endless_empty}
use Rattle.tpl_verify.proofs.empty.lacks_end.Goals as goal

pub returns-then-never : goal.returns-then-never
returns-then-never c holds =
    endless_empty c.args.question.now.graph.now.graph c.args.question.now.claim.now c.given-given-items.result.now c.loop-given.given-index _ c.in-Ended.task c.in-Ended.field-1 holds c.given-given-items.ensures c.loop-given-test.true c.in-Ended.is (c.in_ok-never.ensures c.if-never.true)
