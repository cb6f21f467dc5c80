use Rattle.tpl_laws.proofs.LinkLaws.{quiet_with_sources_lem}
use Rattle.tpl_laws.proofs.links.quiet_with_sources.Goals as goal

pub returns : goal.returns
returns c = quiet_with_sources_lem
