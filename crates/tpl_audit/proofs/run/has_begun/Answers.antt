use Rattle.std.proofs.Common.{◌∙◌, ap, is_some}
use Rattle.tpl_audit.proofs.HoldsLemmas.{has_begun_at}
use Rattle.tpl_audit.proofs.run.has_begun.Goals as goal

pub returns : goal.returns
returns g c = c.is_some.ensures ∙ ap is_some c.began.ensures ∙ has_begun_at (g.C.Core.journal c.args.core.now).events c.args.task.0
