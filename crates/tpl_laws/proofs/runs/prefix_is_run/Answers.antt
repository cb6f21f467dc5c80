use Rattle.tpl_laws.proofs.Prefixes.{prefix_is_run_lem}
use Rattle.tpl_laws.proofs.runs.prefix_is_run.Goals as goal

pub returns : goal.returns
returns c = prefix_is_run_lem
