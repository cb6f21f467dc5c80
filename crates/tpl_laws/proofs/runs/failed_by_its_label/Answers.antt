use Rattle.tpl_laws.proofs.Jobs.{failed_by_its_label_lem}
use Rattle.tpl_laws.proofs.runs.failed_by_its_label.Goals as goal

pub returns : goal.returns
returns c = failed_by_its_label_lem
