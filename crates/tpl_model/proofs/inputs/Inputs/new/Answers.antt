use Rattle.std.proofs.Common.{false}
use Rattle.std.proofs.lemmas.List.{take-replicate}
use Rattle.tpl_model.proofs.inputs.Inputs.new.Goals as goal

pub returns : goal.returns
returns c = take-replicate c.args.count 16 false c.requires
