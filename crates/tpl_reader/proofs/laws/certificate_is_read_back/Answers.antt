use Rattle.tpl_reader.proofs.Certified.{is_read_back}
use Rattle.tpl_reader.proofs.laws.certificate_is_read_back.Goals as goal

pub returns : goal.returns
returns c = is_read_back
