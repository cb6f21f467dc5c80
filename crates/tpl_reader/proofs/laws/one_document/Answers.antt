use Rattle.tpl_reader.proofs.OneDocument.{one_document}
use Rattle.tpl_reader.proofs.Faultless.{no_fault}
use Rattle.tpl_reader.proofs.laws.one_document.Goals as goal

pub returns : goal.returns
returns c = record { one = one_document; faultless = no_fault }
