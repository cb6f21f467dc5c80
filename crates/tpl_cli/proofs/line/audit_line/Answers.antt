use Rattle.std.proofs.Common.{codes}
use Rattle.clap.specs.Words.{found_of, rows_of}
use Rattle.tpl_verdicts.specs.declared.style.Style.TheVariants as style
use Rattle.tpl_cli.specs.Line.{Means}
use Rattle.tpl_cli.proofs.GivenOptions.{nothing}
use Rattle.tpl_cli.proofs.Lines.{no_audit}
use Rattle.tpl_cli.proofs.line.audit_line.Goals as goal

pub returns-in_err-style : goal.returns-in_err-style
returns-in_err-style c =
    let rows = rows_of (found_of c.args.given.now) in
    nothing (Means (codes "audit") rows) c.from_residual.result (cc) (no_audit rows (c.in_err-style.ensures style.Text) (λ html line page. c.in_err-style.ensures style.Html html))
