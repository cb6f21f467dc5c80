use Rattle.std.proofs.Common.{rules}
use Rattle.tpl_report.proofs.session.seats_after_run.Goals as goal

pub returns-in_err-seats-clause-stops : goal.returns-in_err-seats-clause-stops
returns-in_err-seats-clause-stops g c = let stops = c.in_err-seats.ensures.stops c.args.crew.workers in search rules
