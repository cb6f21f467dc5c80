use Rattle.tpl_model.specs.declared.finals.Final.{Final}
use Rattle.tpl_model.specs.declared.finals.Final.TheVariants.{RanToCompletion, Canceled, Faulted}
use Rattle.tpl_verify.proofs.empty.ends_left.Goals as goal

pub returns : goal.returns
returns c RanToCompletion = c.may_end.ensures
returns c Canceled = c.may_end-2.ensures
returns c Faulted = c.may_end-3.ensures
