-- Why a leaf in memory fails.
use Rattle.std.specs.Prelude.{◌≡◌, ℕ, Option, Some, None, Result, Ok, Err}
use Rattle.tpl_model.specs.declared.fault.CertFault.{CertFault}
use Rattle.tpl_laws.specs.Verdict as verdict
use Rattle.tpl_checker.specs.declared.leaf.LeafFault.{LeafFault}
use Rattle.tpl_checker.specs.declared.leaf.LeafFault.TheVariants.{Breaks, ProvesNot}

abbrev pub why : LeafFault → verdict.LeafFault
why (Breaks t rule) = verdict.Breaks t.0 rule
why ProvesNot = verdict.ProvesNot

abbrev pub fault_in : Option LeafFault → Option verdict.LeafFault
fault_in None = None
fault_in (Some fault) = Some (why fault)

-- the fault where there is one, else this number
abbrev pub Failing : Option CertFault → ℕ → Result ℕ CertFault → Type 0
Failing fault next (Ok n) = (fault ≡ None) × (n ≡ next)
Failing fault next (Err e) = fault ≡ Some e
