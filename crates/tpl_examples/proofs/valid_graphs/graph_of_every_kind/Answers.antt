use Rattle.std.proofs.Common.{refl}
use Rattle.tpl_examples.proofs.Computed.{valid}
use Rattle.tpl_examples.proofs.valid_graphs.graph_of_every_kind.Goals as goal

pub returns : goal.returns
returns c = (valid _ refl, refl)
