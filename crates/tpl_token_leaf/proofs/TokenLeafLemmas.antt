-- The first row that breaks a rule.
use Rattle.std.proofs.Common.{List, refl}
use Rattle.tpl_model.specs.Graph.{TaskGraph}
use Rattle.tpl_model.specs.Certificate.{Row}
use Rattle.tpl_model.specs.TokenRules.{LeafAssumed}
use Rattle.tpl_laws.specs.TokenTests.{token_broken, token_first_broken}
use Rattle.tpl_checker.proofs.LeafLemmas.{FindsBroken}

pub finds_broken_with_tokens : (g : TaskGraph) (l : LeafAssumed) (rows : List Row) → FindsBroken (token_broken g l rows) (token_first_broken g l rows)
finds_broken_with_tokens g l rows = record { none = λ i. refl; next = λ i n. refl }
