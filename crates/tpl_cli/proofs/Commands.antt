-- Commands with options or a subcommand more.
use Rattle.std.proofs.Common.{◌≡◌, ◌∙◌, false, ℕ, ◌+◌, List, [], ◌∷◌, ◌++◌, map, take, append_assoc, Result, Ok, Err, IfOk, ap, ap₂, sym}
use Rattle.std.specs.declared.alloc.AllocError.{AllocError}
use Rattle.std.proofs.lemmas.Bool.{or_from}
use Rattle.std.proofs.lemmas.List.{append-nil, map-append}
use Rattle.clap.specs.Words.{App, AddsArg, AddsSubcommand, Rule, app_of, rule_of, with_rule, with_subcommand}
use Rattle.clap.specs.Simple.{on_top}
use Rattle.clap.specs.declared.builder.arg.Arg.{Arg}
use Rattle.clap.specs.declared.builder.command.Command.{Command}
use Rattle.clap.specs.declared.builder.command.Command.TheViews.{out-Command}
use Rattle.tpl_cli.specs.declared.usage.Subcommand.{Subcommand}
use Rattle.tpl_cli.specs.declared.options.CommandOption.{CommandOption}
use Rattle.tpl_cli.specs.Options.{rule_for}
use Rattle.tpl_cli.specs.Usage.{command_of, with_options}

pub with_option : (old : Command) (a : Arg) (app : App) (rule : Rule) (r : Result Command AllocError) → app_of old ≡ app → rule_of a ≡ rule → a.global ≡ false → IfOk r (λ new. AddsArg old a new) → IfOk r (λ new. app_of new ≡ with_rule app rule)
with_option old a app rule (Ok new) is_app is_rule own adds = adds.shape own ∙ ap₂ with_rule is_app is_rule
with_option old a app rule (Err e) is_app is_rule own adds = tt

pub still_own : (old : Command) (a : Arg) (r : Result Command AllocError) → (out-Command old).has_globals ≡ false → a.global ≡ false → IfOk r (λ new. AddsArg old a new) → IfOk r (λ new. (out-Command new).has_globals ≡ false)
still_own old a (Ok new) is own adds = adds.globals ∙ or_from ((out-Command old).has_globals) a.global is own
still_own old a (Err e) is own adds = tt

-- a command with no option more
pub none_more : (app : App) → app ≡ with_options app []
none_more app = ap (λ rules. on_top (λ s. record s { rules = rules }) app) (sym (append-nil app.top.rules))

-- a command with options and one more
pub one_more : (app : App) (options : List CommandOption) (option : CommandOption) → with_rule (with_options app options) (rule_for option) ≡ with_options app (options ++ option ∷ [])
one_more app options option =
    let more : (app.top.rules ++ map rule_for options) ++ rule_for option ∷ [] ≡ app.top.rules ++ map rule_for (options ++ option ∷ []) =
    append_assoc app.top.rules (map rule_for options) (rule_for option ∷ []) ∙ ap (λ l. app.top.rules ++ l) (sym (map-append rule_for options (option ∷ []))) in
    ap (λ rules. on_top (λ s. record s { rules = rules }) app) more

-- the options before i, and the one at i
pub step : (start old new : App) (options : List CommandOption) (i : ℕ) (option : CommandOption) (rule : Rule) → old ≡ with_options start (take i options) → new ≡ with_rule old rule → rule ≡ rule_for option → take (i + 1) options ≡ take i options ++ option ∷ [] → new ≡ with_options start (take (i + 1) options)
step start old new options i option rule before adds is more =
    adds ∙ (ap₂ with_rule before is ∙ (one_more start (take i options) option ∙ ap (with_options start) (sym more)))

pub with_command : (old sub : Command) (app : App) (r : Result Command AllocError) → app_of sub ≡ app → (out-Command sub).has_globals ≡ false → IfOk r (λ new. AddsSubcommand old sub new) → IfOk r (λ new. app_of new ≡ with_subcommand (app_of old) app.top)
with_command old sub app (Ok new) is own adds = adds.shape own ∙ ap (λ (a : App). with_subcommand (app_of old) a.top) is
with_command old sub app (Err e) is own adds = tt

-- one subcommand more, where what is there has another name
pub and_subcommand : {new old app : App} (s : Subcommand) → new ≡ with_subcommand old (command_of s).top → old ≡ app → new ≡ with_subcommand app (command_of s).top
and_subcommand s is same = is ∙ ap (λ (a : App). with_subcommand a (command_of s).top) same

-- the command under another name
pub renamed : {a b : App} (r : Result Command AllocError) → IfOk r (λ new. app_of new ≡ a) → a ≡ b → IfOk r (λ new. app_of new ≡ b)
renamed (Ok new) is e = is ∙ e
renamed (Err fault) is e = tt
