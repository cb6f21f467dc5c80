-- What the versions of documents have.
use Rattle.std.specs.Prelude.{ℕ, Bool, true, false, List, [], ◌∷◌, codes}
use Rattle.tpl_model.specs.declared.rule_set.RuleSet.{RuleSet}
use Rattle.tpl_model.specs.declared.rule_set.RuleSet.TheVariants.{WithoutTokens, WithTokens}
use Rattle.tpl_parts.specs.declared.version.Version.{Version}
use Rattle.tpl_parts.specs.declared.version.Version.TheVariants.{One, Two, Three}

-- tokens may be linked
abbrev pub has_links : Version → Bool
has_links One = false
has_links Two = true
has_links Three = true

-- claims say more and take more as given, and there are notes and names for readers
abbrev pub is_third : Version → Bool
is_third One = false
is_third Two = false
is_third Three = true

-- the rules by which a certificate is judged: those with tokens since version 3
abbrev pub rules_since : Version → RuleSet
rules_since One = WithoutTokens
rules_since Two = WithoutTokens
rules_since Three = WithTokens

-- the members that version 3 adds to a task
abbrev pub task_remarks : Version → List (List ℕ)
task_remarks One = []
task_remarks Two = []
task_remarks Three = codes "note" ∷ []

-- the members that version 3 adds to each claim
abbrev pub claim_remarks : Version → List (List ℕ)
claim_remarks One = []
claim_remarks Two = []
claim_remarks Three = codes "name" ∷ codes "note" ∷ []
