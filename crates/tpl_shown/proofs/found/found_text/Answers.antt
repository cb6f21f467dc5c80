use Rattle.serde_json.specs.View.{view}
use Rattle.tpl_shown.proofs.Values.{found_depth}
use Rattle.tpl_shown.proofs.found.found_text.Goals as goal

pub returns : goal.returns
returns c =
    let r = c.args.recorded.now in
    let is = c.in_ok-found_value.ensures in
    let d = view c.in_ok-found_value.field-0 in
    let shallow = found_depth r.graph.now r.claims.now r.inputs.now r.events.now c.args.verdict d is in
    (d, is, c.in_ok-text.ensures.reads_back shallow)
