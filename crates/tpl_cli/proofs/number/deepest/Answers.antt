use Rattle.std.proofs.Common.{sym, arith}
use Rattle.std.proofs.lemmas.Fmt.{decimal_digit}
use Rattle.tpl_model.specs.declared.limits.TheConstants.{MOST_SPLITS}
use Rattle.tpl_cli.proofs.number.deepest.Goals as goal

pub returns : goal.returns
returns c = sym (decimal_digit MOST_SPLITS (omega arith))
