-- The options of the command line, and what is given for them.
use Rattle.std.specs.Prelude.{◌≡◌, ◌≤◌, ◌↔◌, ℕ, pos, Bool, IsTrue, List, [], ◌∷◌, Option, Some, None, MatchOption, codes}
use Rattle.std.specs.Str.Parse.{IsNumeral, digits_value, without_leading_plus}
use Rattle.tpl_draw.specs.declared.language.Language.{Language}
use Rattle.tpl_draw.specs.declared.language.Language.TheVariants.{Mermaid, Dot}
use Rattle.tpl_verdicts.specs.declared.style.Style.{Style}
use Rattle.tpl_verdicts.specs.declared.style.Style.TheVariants as style
use Rattle.clap.specs.Words.{Row, Rule, Text, first_of, new_rule, one_of}
use Rattle.clap.specs.declared.builder.action.ArgAction.TheVariants.{SetTrue}
use Rattle.clap.specs.declared.builder.value_parser.ValueParser.TheVariants as vp
use Rattle.tpl_cli.specs.Number.{deepest, number_name, number_range, usual}
use Rattle.tpl_cli.specs.declared.number.Number.{Number}
use Rattle.tpl_cli.specs.declared.number.Number.TheVariants.{Depth}
use Rattle.tpl_cli.specs.declared.options.CommandOption.{CommandOption}
use Rattle.tpl_cli.specs.declared.options.CommandOption.TheVariants as options
use Rattle.tpl_cli.specs.declared.options.Flag.{Flag}
use Rattle.tpl_cli.specs.declared.options.Flag.TheVariants as flags

-- the name of an option that has no value
abbrev pub flag_name : Flag → Text
flag_name flags.Slim = codes "slim"
flag_name flags.Rows = codes "rows"
flag_name flags.WithCertificate = codes "whole"
flag_name flags.WithRun = codes "whole"
flag_name flags.Each = codes "each"
flag_name flags.Explain = codes "explain"

-- an option `--NAME` that has no value
abbrev pub flag : Flag → Rule
flag option = record (new_rule (flag_name option)) {
  long = Some (flag_name option);
  action = Some SetTrue;
}

-- an option `--NAME VALUE`, with what stands for a value that is left out
abbrev pub valued : Text → List Text → Rule
valued name defaults = record (new_rule name) {
  long = Some name;
  value_names = 1;
  defaults = defaults;
}

-- an option `--NAME N`, where N is a number in its range, with what stands for one that is left out
abbrev pub numbered : Number → List Text → Rule
numbered option defaults = record (valued (number_name option) defaults) {
  parser = Some (vp.Signed (pos (number_range option).0) (pos (number_range option).1));
}

-- the option `--as WORD`, with the word that stands for one that is left out
abbrev pub named : Text → Rule
named word = valued (codes "as") (word ∷ [])

-- the word for a language
abbrev pub language_word : Language → Text
language_word Mermaid = codes "mermaid"
language_word Dot = codes "dot"

-- the word for a style
abbrev pub style_word : Style → Text
style_word style.Text = codes "text"
style_word style.Json = codes "json"
style_word style.Junit = codes "junit"
style_word style.Html = codes "html"

-- the rule for an option
abbrev pub rule_for : CommandOption → Rule
rule_for (options.Flag option) = flag option
rule_for (options.Number option) = numbered option (usual option)
rule_for options.Deepest = numbered Depth (deepest ∷ [])
rule_for options.Language = named (language_word Mermaid)
rule_for options.Style = named (style_word style.Text)
rule_for options.AuditStyle = named (style_word style.Text)

-- the option was used
abbrev pub IsSet : Text → List Row → Type 0
IsSet option rows = first_of option rows ≡ Some (codes "true")

-- whether the option was used
abbrev pub IsFlag : Text → List Row → Bool → Type 0
IsFlag option rows is_used = IsTrue is_used ↔ IsSet option rows

-- the option's text is this number in decimal digits, within its range
pub record IsGiven (option : Number) (rows : List Row) (number : ℕ) : Type 0 where
  pub text : Text
  pub given : one_of (number_name option) rows ≡ Some text
  pub digits : IsNumeral 10 (without_leading_plus text)
  pub value : digits_value 10 (without_leading_plus text) ≡ number
  pub least : (number_range option).0 ≤ number
  pub most : number ≤ (number_range option).1

-- the number that is given for the option, if one is
abbrev pub IsIfGiven : Number → List Row → Option ℕ → Type 0
IsIfGiven option rows None = first_of (number_name option) rows ≡ None
IsIfGiven option rows (Some number) = (first_of (number_name option) rows ≡ None → ⊥) × IsGiven option rows number

-- the option's text is this word
abbrev pub IsWord : List Row → Text → Type 0
IsWord rows word = first_of (codes "as") rows ≡ Some word

-- the option's text is the word for this language
abbrev pub IsLanguage : List Row → Language → Type 0
IsLanguage rows language = IsWord rows (language_word language)

-- the option's text is the word for this style
abbrev pub IsStyle : List Row → Style → Type 0
IsStyle rows style = IsWord rows (style_word style)

-- what is found is such a thing, and where none is found there is none
abbrev pub Finds : {A : Type 0} → (A → Type 0) → Option A → Type 0
Finds {A} IsSuch found = MatchOption found ((thing : A) → IsSuch thing → ⊥) IsSuch
