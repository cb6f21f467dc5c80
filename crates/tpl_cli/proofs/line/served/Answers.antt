use Rattle.clap.specs.Words.{found_of, rows_of}
use Rattle.tpl_cli.specs.Line.{Means}
use Rattle.tpl_cli.proofs.GivenOptions.{nothing}
use Rattle.tpl_cli.proofs.Lines.{wrong_jobs}
use Rattle.tpl_cli.proofs.line.served.Goals as goal

pub returns-in_err-jobs : goal.returns-in_err-jobs
returns-in_err-jobs c word asks =
    let rows = rows_of (found_of c.args.given.now) in
    nothing (Means word rows) c.from_residual.result (cc) (wrong_jobs word rows c.args.ask asks c.in_err-jobs.ensures)
