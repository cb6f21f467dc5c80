use Rattle.std.proofs.Common.{refl}
use Rattle.tpl_model.specs.declared.event.Act.TheVariants.{Worked}
use Rattle.tpl_runtime.proofs.TurnLemmas.{acted, still}
use Rattle.tpl_runtime.proofs.shared.Shared.answer.Goals as goal

pub returns-in-Ok-clause-proceeds : goal.returns-in-Ok-clause-proceeds
returns-in-Ok-clause-proceeds g c =
    let ok = c.in-Ok.ensures in
    let act = Worked c.args.task c.args.receipt.answer in
    acted c.args.kit.now _ c.finish.new.kit c.args.self.now.hall.core c.worked.new.self.core c.finish.new.self.hall.core act c.in-Ok._place refl refl ok.run ok.place ok.seat c.finish.ensures.proceeds

pub returns-in-Err-clause-proceeds : goal.returns-in-Err-clause-proceeds
returns-in-Err-clause-proceeds g c = let same = c.in-Err.ensures.refused in still _ _ _ _ refl refl same.1 same.4
