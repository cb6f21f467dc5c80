use Rattle.std.proofs.Common.{◌≡◌, Option, Some, sym, subst, List}
use Rattle.clap.specs.Words.{Row, Text, found_of, rows_of, subcommand_rows_of}
use Rattle.tpl_cli.specs.Line.{IsLineOf}
use Rattle.tpl_cli.specs.Options.{Finds}
use Rattle.tpl_cli.proofs.Lines.{entered}
use Rattle.tpl_cli.proofs.line.line_in.Goals as goal

pub returns : goal.returns
returns c =
    let word = c.in-Some.word.now in
    let rows = rows_of (found_of c.in-Some.given.now) in
    let is : subcommand_rows_of c.args.matches.now ≡ Some (word, rows) = entered _ _ _ word rows c.in-Some.ensures.name c.in-Some.ensures.rows in
    subst (λ (o : Option (Text × List Row)). Finds (IsLineOf o) c.line_meant.result) (sym is) c.line_meant.ensures
