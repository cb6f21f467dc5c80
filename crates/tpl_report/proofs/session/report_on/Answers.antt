use Rattle.std.proofs.Common.{subst, sym}
use Rattle.tpl_report.specs.Prevents.{Prevents, StopsFor}
use Rattle.tpl_report.proofs.StopLemmas.{stops_open}
use Rattle.tpl_report.proofs.session.report_on.Goals as goal

pub returns-in-Err-clause-stops : goal.returns-in-Err-clause-stops
returns-in-Err-clause-stops g c =
    let may = Prevents g.W.Item.site g.W.Item.may_fail c.args.items.items c.args.graph.now c.args.crew.workers in
    subst (StopsFor may) (sym c.open_stop.ensures) (stops_open g.W.Item.site g.W.Item.may_fail c.args.items.items c.args.graph.now c.args.crew.workers c.in-Err.fault.why c.in-Err.ensures.refused)
