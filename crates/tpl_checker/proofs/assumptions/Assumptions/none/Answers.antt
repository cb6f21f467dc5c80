use Rattle.std.proofs.Common.{refl}
use Rattle.tpl_checker.proofs.Assuming.{none_assumed}
use Rattle.tpl_checker.proofs.assumptions.Assumptions.none.Goals as goal

pub returns : goal.returns
returns c = none_assumed _ refl refl c.all.ensures c.all-2.ensures refl
