use Rattle.std.proofs.Common.{Some, None, ap}
use Rattle.tpl_model.specs.Knowledge.{Knowledge, Reached}
use Rattle.tpl_paths.proofs.reached.Reached.begin.Goals as goal

pub returns : goal.returns
returns c = ap (λ (k : Knowledge). let r : Reached = record { unburdened = Some k; burdened = None } in r) c.of.ensures
