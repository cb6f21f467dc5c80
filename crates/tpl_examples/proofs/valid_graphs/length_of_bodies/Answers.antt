use Rattle.std.proofs.Common.{refl}
use Rattle.tpl_examples.proofs.Computed.{invalid, valid}
use Rattle.tpl_examples.proofs.valid_graphs.length_of_bodies.Goals as goal

pub returns : goal.returns
returns c = (valid _ refl, (invalid _ refl, (invalid _ refl, tt)))
