use Rattle.std.proofs.Common.{codes}
use Rattle.clap.specs.Words.{found_of, rows_of}
use Rattle.tpl_cli.specs.Line.{Asks}
use Rattle.tpl_cli.proofs.GivenOptions.{nothing}
use Rattle.tpl_cli.proofs.Lines.{no_form, no_search}
use Rattle.tpl_cli.proofs.line.search_asked.Goals as goal

pub returns-in_err-depth : goal.returns-in_err-depth
returns-in_err-depth c =
    let rows = rows_of (found_of c.args.given.now) in
    nothing (Asks (codes "analyse") rows) c.from_residual.result (cc) (no_search rows c.in_err-depth.ensures)

pub returns-in_err-form : goal.returns-in_err-form
returns-in_err-form c =
    let rows = rows_of (found_of c.args.given.now) in
    nothing (Asks (codes "analyse") rows) c.from_residual-in_err-form.result (cc) (no_form rows c.in_err-form.ensures)
