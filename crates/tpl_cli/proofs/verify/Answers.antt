use Rattle.tpl_cli.proofs.verify.Goals as goal

pub returns-then-is_each : goal.returns-then-is_each
returns-then-is_each g c = rw c.if-is_each.true c.answer_each.ensures

pub returns : goal.returns
returns g c = rw c.if-is_each.false c.verify_one.ensures
