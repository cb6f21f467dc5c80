use Rattle.std.proofs.Common.{false, ap, ◌∙◌, arith, nat_eq}
use Rattle.std.specs.Prelude.{if◌then◌else◌}
use Rattle.tpl_model.specs.TaskSet.{is_set}
use Rattle.tpl_fast.proofs.BitLemmas.{removed}
use Rattle.tpl_fast.proofs.bits.Bits.remove.Goals as goal

pub returns : goal.returns
returns c x =
    removed c.self.inside.words c.args.task.0 (let e = c.self.told in omega arith) x
    ∙ ap (λ s. if nat_eq x c.args.task.0 then false else is_set s x) c.self.view_is
