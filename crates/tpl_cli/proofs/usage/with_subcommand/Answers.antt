use Rattle.tpl_cli.specs.Usage.{command_of}
use Rattle.tpl_cli.proofs.Commands.{with_command}
use Rattle.tpl_cli.proofs.usage.with_subcommand.Goals as goal

pub returns : goal.returns
returns c = with_command c.args.command c.in_ok-command.field-0 (command_of c.args.subcommand) c.subcommand.result c.in_ok-command.ensures.app c.in_ok-command.ensures.own c.subcommand.ensures
