use Rattle.std.proofs.Common.{◌∙◌, ap, sym}
use Rattle.serde_json.specs.View.{view}
use Rattle.serde_json.proofs.Views.{view-Array}
use Rattle.tpl_verdicts.proofs.TreeLemmas.{last_of, one_value}
use Rattle.tpl_verdicts.proofs.tree.only.Goals as goal

pub returns : goal.returns
returns c first is =
    let values = c.in-Array.values in
    let one = one_value values.items first (sym (ap view c.in-Array.is ∙ view-Array values) ∙ is) in
    let last = last_of c.pop.new.self.items c.in-Some.first one.0 (sym c.in-Some.ensures.items ∙ one.1) in
    ap view last ∙ one.2
