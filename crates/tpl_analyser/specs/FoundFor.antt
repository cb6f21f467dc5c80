-- A tree that is found for a claim by one set of rules or the other.
use Rattle.std.specs.Prelude.{ℕ}
use Rattle.tpl_model.specs.declared.rule_set.RuleSet.{RuleSet}
use Rattle.tpl_model.specs.declared.rule_set.RuleSet.TheVariants.{WithoutTokens, WithTokens}
use Rattle.tpl_model.specs.Graph.{TaskGraph}
use Rattle.tpl_model.specs.Claims.{Claim}
use Rattle.tpl_model.specs.Certificate.{Tree, assumed_for}
use Rattle.tpl_model.specs.TokenRules.{assumed_with_tokens}
use Rattle.tpl_analyser.specs.declared.form.Form.{Form}
use Rattle.tpl_analyser.specs.Found.{IsFound}
use Rattle.tpl_analyser.specs.TokenFound.{IsFoundWithTokens}

-- the tree is one of this form for the claim, with at most n splits on each path
abbrev pub IsFoundFor : RuleSet → TaskGraph → Claim → Form → ℕ → Tree → Type 0
IsFoundFor WithoutTokens g claim form n tree = IsFound g claim.body form (assumed_for WithoutTokens g claim) n tree
IsFoundFor WithTokens g claim form n tree = IsFoundWithTokens g claim.body form (assumed_with_tokens g claim) n tree
