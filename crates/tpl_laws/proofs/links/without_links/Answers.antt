use Rattle.tpl_laws.proofs.LinkLaws.{without_links_lem}
use Rattle.tpl_laws.proofs.links.without_links.Goals as goal

pub returns : goal.returns
returns c = without_links_lem
