use Rattle.std.proofs.Common.{ap, refl, sym, ◌∙◌}
use Rattle.std.specs.Option.{option_map}
use Rattle.core.specs.Cmp.Lexicographic.{same_text, other_text}
use Rattle.clap.specs.Words.{found_of}
use Rattle.tpl_cli.proofs.GivenOptions.{set_given, not_set_given, not_set}
use Rattle.tpl_cli.proofs.options.is_set.Goals as goal

pub returns-in-Some : goal.returns-in-Some
returns-in-Some c = (λ _. set_given (found_of c.args.given.now) c.args.option.now c.in-Some.text.now c.in-Some.ensures (same_text _ _ c.if-eq.ensures), λ _. refl)

pub returns-in_default : goal.returns-in_default
returns-in_default c = (λ f. absurd cc, λ is. absurd (not_set_given (found_of c.args.given.now) c.args.option.now c.in-Some.text.now c.in-Some.ensures (other_text _ _ c.if-eq.ensures) is))

pub returns-in_default-2 : goal.returns-in_default-2
returns-in_default-2 c = (λ f. absurd cc, λ is. absurd (not_set (found_of c.args.given.now) c.args.option.now (ap (option_map (λ s. s.now)) (sym c.in_default.is) ∙ c.get_str.ensures) is))
