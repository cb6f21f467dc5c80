-- Where a certificate fails, if memory lasts.
use Rattle.std.specs.Prelude.{◌≡◌, ℕ, Option, Some, None, Result, Ok, Err}
use Rattle.tpl_model.specs.declared.fault.CertFault.{CertFault}
use Rattle.tpl_model.specs.declared.ids.TaskId.{TaskId}
use Rattle.tpl_model.specs.declared.claim.Property.{Property}
use Rattle.tpl_model.specs.Graph.{TaskGraph}
use Rattle.tpl_model.specs.TokenRules.{LeafAssumed, narrowed}
use Rattle.tpl_laws.specs.Verdict.{LeafFault}
use Rattle.tpl_laws.specs.TokenTests.{token_leaf_fault}
use Rattle.tpl_laws.specs.LeastRows.{least_rows}
use Rattle.tpl_token_check.specs.declared.error.TokenFault.{TokenFault}
use Rattle.tpl_token_check.specs.declared.error.TokenFault.TheVariants.{Fails, Memory}

-- the fault where there is one, else this number; or an allocation was refused
abbrev pub FailingWithTokens : Option CertFault → ℕ → Result ℕ TokenFault → Type 0
FailingWithTokens fault next (Ok n) = (fault ≡ None) × (n ≡ next)
FailingWithTokens fault next (Err (Fails e)) = fault ≡ Some e
FailingWithTokens fault next (Err Memory) = Unit {0}

-- the verdict, or an allocation was refused
abbrev pub IsAnswer : Result (Unit {0}) CertFault → Result (Unit {0}) TokenFault → Type 0
IsAnswer verdict (Ok u) = verdict ≡ Ok u
IsAnswer verdict (Err (Fails e)) = verdict ≡ Err e
IsAnswer verdict (Err Memory) = Unit {0}

-- the fault of a leaf without rows
abbrev pub least_fault : TaskGraph → Property TaskId → LeafAssumed → Option LeafFault
least_fault g p l = token_leaf_fault g p (narrowed g l) (least_rows g (narrowed g l) p)
