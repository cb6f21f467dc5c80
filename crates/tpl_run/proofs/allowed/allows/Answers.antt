use Rattle.tpl_run.proofs.allowed.allows.Goals as goal

pub returns-in-Release : goal.returns-in-Release
returns-in-Release g c = rw c.in-Release.is (c.may_release.ensures c.args.event.actor)

pub returns-in-Close : goal.returns-in-Close
returns-in-Close g c = rw c.in-Close.is (c.may_close.ensures c.args.event.actor)

pub returns-in-Drop : goal.returns-in-Drop
returns-in-Drop g c = rw c.in-Drop.is (c.may_drop.ensures c.args.event.actor)

pub returns-in-Settle : goal.returns-in-Settle
returns-in-Settle g c = rw c.in-Settle.is (c.may_settle.ensures c.args.event.actor)
