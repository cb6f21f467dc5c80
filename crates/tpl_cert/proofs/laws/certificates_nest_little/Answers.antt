use Rattle.tpl_cert.proofs.Nesting.{certificate_depth}
use Rattle.tpl_cert.proofs.laws.certificates_nest_little.Goals as goal

pub returns : goal.returns
returns c = certificate_depth
