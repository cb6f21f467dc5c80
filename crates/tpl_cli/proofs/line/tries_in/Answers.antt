use Rattle.clap.specs.Words.{found_of, rows_of}
use Rattle.tpl_cli.specs.Line.{AreTries}
use Rattle.tpl_cli.proofs.GivenOptions.{nothing}
use Rattle.tpl_cli.proofs.line.tries_in.Goals as goal

pub returns-in_err-runs : goal.returns-in_err-runs
returns-in_err-runs c =
    nothing (AreTries (rows_of (found_of c.args.given.now))) c.from_residual.result (cc) (λ tries are. c.in_err-runs.ensures tries.runs are.0)

pub returns-in_err-seed : goal.returns-in_err-seed
returns-in_err-seed c =
    nothing (AreTries (rows_of (found_of c.args.given.now))) c.from_residual-in_err-seed.result (cc) (λ tries are. c.in_err-seed.ensures tries.seed are.1)
