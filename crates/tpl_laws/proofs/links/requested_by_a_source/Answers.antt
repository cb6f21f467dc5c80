use Rattle.tpl_laws.proofs.LinkLaws.{requested_by_a_source_lem}
use Rattle.tpl_laws.proofs.links.requested_by_a_source.Goals as goal

pub returns : goal.returns
returns c = requested_by_a_source_lem
