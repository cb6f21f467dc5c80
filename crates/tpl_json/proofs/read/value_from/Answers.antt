use Rattle.std.proofs.lemmas.Result.{IfOk-weaker}
use Rattle.serde_json.proofs.Nesting.{depth-read}
use Rattle.tpl_json.specs.View.{view}
use Rattle.tpl_json.proofs.read.value_from.Goals as goal

pub returns-in-Ok-clause-nests : goal.returns-in-Ok-clause-nests
returns-in-Ok-clause-nests c =
    IfOk-weaker c.text_read.result _ _ (λ v e. depth-read c.in-Ok.text.now (view v) e) c.text_read.ensures.ok
