use Rattle.tpl_checker.proofs.Assuming.{replicate_same}
use Rattle.tpl_outline.specs.Fates.{unsettled}
use Rattle.tpl_outline.proofs.outline.Outline.unsettled.Goals as goal

pub returns : goal.returns
returns c t = replicate_same 1024 t unsettled
