use Rattle.std.proofs.Common.{◌≡◌, ◌∙◌, ap, ap₂, rules}
use Rattle.clap.specs.Words.{app_of, new_app, with_rule}
use Rattle.tpl_cli.specs.declared.options.CommandOption.TheVariants.{Flag}
use Rattle.tpl_cli.specs.declared.options.Flag.TheVariants.{Explain}
use Rattle.tpl_cli.specs.Usage.{with_options, words_of}
use Rattle.tpl_cli.proofs.Commands.{one_more, renamed}
use Rattle.tpl_cli.proofs.usage.Subcommand.command.Goals as goal

pub returns-clause-app : goal.returns-clause-app
returns-clause-app c =
    let words = words_of c.args.self in
    let named : app_of c.after_help-command.result ≡ new_app c.name.result.now = search rules in
    let given = c.in_ok-command.ensures.app ∙ ap₂ with_options (named ∙ ap new_app c.name.ensures) c.options.ensures in
    renamed c.with_option.result c.with_option.ensures.app (ap₂ with_rule given c.arg.ensures.rule ∙ one_more (new_app words.0) words.1 (Flag Explain))
