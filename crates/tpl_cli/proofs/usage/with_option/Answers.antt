use Rattle.std.proofs.Common.{refl}
use Rattle.clap.specs.Words.{app_of, rule_of}
use Rattle.tpl_cli.proofs.Commands.{still_own, with_option}
use Rattle.tpl_cli.proofs.usage.with_option.Goals as goal

pub returns-clause-app : goal.returns-clause-app
returns-clause-app c = with_option c.args.command c.args.option (app_of c.args.command) (rule_of c.args.option) c.arg.result refl refl c.requires.option c.arg.ensures

pub returns-clause-own : goal.returns-clause-own
returns-clause-own c = still_own c.args.command c.args.option c.arg.result c.requires.command c.requires.option c.arg.ensures
