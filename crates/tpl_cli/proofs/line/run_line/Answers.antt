use Rattle.std.proofs.Common.{codes}
use Rattle.clap.specs.Words.{found_of, rows_of}
use Rattle.tpl_cli.specs.Line.{Means}
use Rattle.tpl_cli.proofs.GivenOptions.{nothing}
use Rattle.tpl_cli.proofs.Lines.{no_run}
use Rattle.tpl_cli.proofs.line.run_line.Goals as goal

pub returns-in_err-workers : goal.returns-in_err-workers
returns-in_err-workers c =
    let rows = rows_of (found_of c.args.given.now) in
    nothing (Means (codes "run") rows) c.from_residual.result (cc) (no_run rows (λ workers is_whole m. c.in_err-workers.ensures workers m.1))
