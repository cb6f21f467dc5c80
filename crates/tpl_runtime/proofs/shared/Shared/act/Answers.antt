use Rattle.std.proofs.Common.{refl}
use Rattle.tpl_runtime.proofs.TurnLemmas.{acted, still}
use Rattle.tpl_runtime.proofs.shared.Shared.act.Goals as goal

pub returns-in-Ok-clause-proceeds : goal.returns-in-Ok-clause-proceeds
returns-in-Ok-clause-proceeds g c =
    let ok = c.in-Ok.ensures in
    acted c.args.kit.now _ c.finish.new.kit c.args.self.now.hall.core c.step.new.self.core c.finish.new.self.hall.core c.args.act c.in-Ok._place refl refl ok.run ok.place ok.seat c.finish.ensures.proceeds

pub returns-in-Err-clause-proceeds : goal.returns-in-Err-clause-proceeds
returns-in-Err-clause-proceeds g c = let same = c.in-Err.ensures.refused in still _ _ _ _ refl refl same.0 same.2
