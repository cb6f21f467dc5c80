use Rattle.std.proofs.Common.{◌≡◌, None}
use Rattle.clap.specs.Words.{found_of, rows_of}
use Rattle.tpl_cli.specs.declared.line.Line.TheVariants.{AuditPage}
use Rattle.tpl_cli.specs.Line.{IsAlone}
use Rattle.tpl_cli.proofs.GivenOptions.{nothing}
use Rattle.tpl_cli.proofs.line.page_line.Goals as goal

pub returns-in_err-jobs : goal.returns-in_err-jobs
returns-in_err-jobs c =
    nothing (λ line. (line ≡ AuditPage) × IsAlone (rows_of (found_of c.args.given.now))) c.from_residual.result (cc) (λ line is. c.in_err-jobs.ensures None is.1.1)
