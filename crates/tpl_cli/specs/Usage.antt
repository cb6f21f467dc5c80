-- The command line and its subcommands.
use Rattle.std.specs.Prelude.{true, List, [], ◌∷◌, ◌++◌, map, codes}
use Rattle.clap.specs.Words.{App, Text, new_app, with_subcommand}
use Rattle.clap.specs.Simple.{on_top}
use Rattle.tpl_cli.specs.declared.number.Number.TheVariants.{Depth, Workers, Claim, Runs, Seed, Jobs}
use Rattle.tpl_cli.specs.declared.options.CommandOption.{CommandOption}
use Rattle.tpl_cli.specs.declared.options.CommandOption.TheVariants.{Flag, Number, Deepest, Language, Style, AuditStyle}
use Rattle.tpl_cli.specs.declared.options.Flag.TheVariants.{Slim, Rows, WithCertificate, WithRun, Each, Explain}
use Rattle.tpl_cli.specs.declared.usage.Subcommand.{Subcommand}
use Rattle.tpl_cli.specs.declared.usage.Subcommand.TheVariants.{Check, Analyse, Run, Audit, Refute, Verify, Draw, Trace}
use Rattle.tpl_cli.specs.Options.{rule_for}

-- the options for what is tried for a claim
abbrev pub tries : List CommandOption
tries = Number Runs ∷ Number Seed ∷ []

-- the name of the subcommand, and its options but for `--explain`
abbrev pub words_of : Subcommand → Text × List CommandOption
words_of Check = (codes "check", Flag Each ∷ Number Jobs ∷ [])
words_of Analyse = (codes "analyse", Number Depth ∷ Flag Slim ∷ Flag Rows ∷ Flag WithCertificate ∷ [])
words_of Run = (codes "run", Number Workers ∷ Flag WithRun ∷ [])
words_of Audit = (codes "audit", AuditStyle ∷ Flag Each ∷ Number Jobs ∷ [])
words_of Refute = (codes "refute", Number Claim ∷ tries)
words_of Verify = (codes "verify", Deepest ∷ tries ++ Number Jobs ∷ Style ∷ Flag Each ∷ [])
words_of Draw = (codes "draw", Language ∷ [])
words_of Trace = (codes "trace", [])

-- a command with these options more
abbrev pub with_options : App → List CommandOption → App
with_options app options = on_top (λ s. record s { rules = s.rules ++ map rule_for options }) app

-- the subcommand
abbrev pub command_of : Subcommand → App
command_of subcommand = with_options (new_app (words_of subcommand).0) ((words_of subcommand).1 ++ Flag Explain ∷ [])

-- one of the subcommands has to stand there
abbrev pub no_command : App
no_command = on_top (λ s. record s { subcommand_required = true; has_version = true }) (new_app (codes "taskgraph"))

-- a command with these subcommands more
abbrev pub with_subcommands : App → List Subcommand → App
with_subcommands app [] = app
with_subcommands app (subcommand ∷ more) = with_subcommands (with_subcommand app (command_of subcommand).top) more

-- the whole command line
abbrev pub taskgraph : App
taskgraph = with_subcommands no_command (Check ∷ Analyse ∷ Run ∷ Audit ∷ Refute ∷ Verify ∷ Draw ∷ Trace ∷ [])
