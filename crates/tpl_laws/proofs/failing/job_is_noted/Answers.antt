use Rattle.tpl_laws.proofs.FailingLemmas.{job_is_noted_lem}
use Rattle.tpl_laws.proofs.failing.job_is_noted.Goals as goal

pub returns : goal.returns
returns c = job_is_noted_lem
