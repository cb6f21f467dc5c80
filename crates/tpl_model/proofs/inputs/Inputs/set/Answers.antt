use Rattle.std.proofs.Common.{◌<◌, length, ap, ◌∙◌, arith}
use Rattle.std.specs.Prelude.{slice_set}
use Rattle.std.proofs.Common.{length-take}
use Rattle.std.proofs.Math.Seq.{take-set-lt}
use Rattle.tpl_model.proofs.inputs.Inputs.set.Goals as goal

pub returns : goal.returns
returns c =
    let within : c.args.input.0 < c.self.inside.count = grind (arith, c.requires, ap length c.self.view_is, length-take) in
    take-set-lt c.self.inside.count c.self.inside.values c.args.input.0 c.args.value within
    ∙ ap (λ l. slice_set l c.args.input.0 c.args.value) c.self.view_is
