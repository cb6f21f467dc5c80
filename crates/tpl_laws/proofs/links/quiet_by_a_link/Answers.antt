use Rattle.tpl_laws.proofs.LinkLaws.{quiet_by_a_link_lem}
use Rattle.tpl_laws.proofs.links.quiet_by_a_link.Goals as goal

pub returns : goal.returns
returns c = quiet_by_a_link_lem
