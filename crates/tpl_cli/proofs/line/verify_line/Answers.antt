use Rattle.std.proofs.Common.{codes}
use Rattle.clap.specs.Words.{found_of, rows_of}
use Rattle.tpl_cli.specs.Line.{Means}
use Rattle.tpl_cli.proofs.GivenOptions.{nothing}
use Rattle.tpl_cli.proofs.Lines.{no_verify}
use Rattle.tpl_cli.proofs.line.verify_line.Goals as goal

pub returns-in_err-depth : goal.returns-in_err-depth
returns-in_err-depth c =
    let rows = rows_of (found_of c.args.given.now) in
    nothing (Means (codes "verify") rows) c.from_residual.result (cc) (no_verify rows (λ depth tries jobs style is_each m. c.in_err-depth.ensures depth m.1))

pub returns-in_err-tries : goal.returns-in_err-tries
returns-in_err-tries c =
    let rows = rows_of (found_of c.args.given.now) in
    nothing (Means (codes "verify") rows) c.from_residual-in_err-tries.result (cc) (no_verify rows (λ depth tries jobs style is_each m. c.in_err-tries.ensures tries m.2))
