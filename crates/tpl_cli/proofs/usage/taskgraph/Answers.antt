use Rattle.std.proofs.Common.{ap}
use Rattle.clap.specs.Words.{App, with_subcommand}
use Rattle.tpl_cli.specs.declared.usage.Subcommand.TheVariants.{Check, Analyse, Run, Audit, Refute, Verify, Draw, Trace}
use Rattle.tpl_cli.specs.Usage.{command_of}
use Rattle.tpl_cli.proofs.Commands.{and_subcommand, renamed}
use Rattle.tpl_cli.proofs.usage.taskgraph.Goals as goal

pub returns : goal.returns
returns c =
    let check = and_subcommand Check c.in_ok-command.ensures c.no_command.ensures in
    let analyse = and_subcommand Analyse c.in_ok-command-2.ensures check in
    let run = and_subcommand Run c.in_ok-command-3.ensures analyse in
    let audit = and_subcommand Audit c.in_ok-command-4.ensures run in
    let refute = and_subcommand Refute c.in_ok-command-5.ensures audit in
    let verify = and_subcommand Verify c.in_ok-command-6.ensures refute in
    let draw = and_subcommand Draw c.in_ok-command-7.ensures verify in
    renamed c.with_subcommand-8.result c.with_subcommand-8.ensures (ap (λ (a : App). with_subcommand a (command_of Trace).top) draw)
