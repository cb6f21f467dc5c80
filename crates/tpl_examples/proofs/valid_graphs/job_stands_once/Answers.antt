use Rattle.std.proofs.Common.{refl}
use Rattle.tpl_examples.proofs.Computed.{invalid}
use Rattle.tpl_examples.proofs.valid_graphs.job_stands_once.Goals as goal

pub returns : goal.returns
returns c = (invalid _ refl, (invalid _ refl, tt))
