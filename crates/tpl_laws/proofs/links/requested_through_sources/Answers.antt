use Rattle.tpl_laws.proofs.LinkLaws.{requested_through_sources_lem}
use Rattle.tpl_laws.proofs.links.requested_through_sources.Goals as goal

pub returns : goal.returns
returns c = requested_through_sources_lem
