use Rattle.std.proofs.Common.{codes, refl}
use Rattle.tpl_json.specs.View.{view}
use Rattle.tpl_cert.proofs.PlainTrees.{row_lacks}
use Rattle.tpl_cert.proofs.read.row_of.Goals as goal

pub tokens_in-requires : goal.tokens_in-requires
tokens_in-requires c = row_lacks c.args.rules _ (codes "asked") (view c.args.value.now) c.row_names.ensures c.if-not-has_only.ensures refl

pub tokens_in-requires-2 : goal.tokens_in-requires-2
tokens_in-requires-2 c = row_lacks c.args.rules _ (codes "asks") (view c.args.value.now) c.row_names.ensures c.if-not-has_only.ensures refl
