-- Which claim is named where no certificate is given.
use Rattle.std.specs.Prelude.{◌≡◌, ℕ, ◌+◌, ◌≤◌, ◌++◌, ◌∷◌, List, length, All}
use Rattle.tpl_model.specs.declared.rule_set.RuleSet.{RuleSet}
use Rattle.tpl_model.specs.Graph.{TaskGraph}
use Rattle.tpl_model.specs.Claims.{Claim}
use Rattle.tpl_model.specs.Certificate.{Tree}
use Rattle.tpl_laws.specs.ByRules.{AcceptsBy}
use Rattle.tpl_trees.specs.Heights.{height}
use Rattle.tpl_analyser.specs.declared.gap.Gap.{Gap}
use Rattle.tpl_analyser.specs.declared.gap.Gap.TheVariants.{NotFound, Memory}

-- the claim of this number is the one that is named (the first has the number 1): those before it have a certificate by the
-- rules with at most this many splits on each path
pub record IsFirstWithout (rules : RuleSet) (g : TaskGraph) (claims : List Claim) (depth number : ℕ) : Type 0 where
  pub before : List Claim
  pub claim : Claim
  pub behind : List Claim
  pub claims_are : claims ≡ before ++ claim ∷ behind
  pub at : number ≡ length before + 1
  pub trees : List Tree
  pub accepted : AcceptsBy rules g before trees
  pub splits : All (λ tree. height tree ≤ depth) trees

abbrev pub IsGap : RuleSet → TaskGraph → List Claim → ℕ → Gap → Type 0
IsGap rules g claims depth (NotFound claim) = IsFirstWithout rules g claims depth claim
IsGap rules g claims depth Memory = Unit {0}
