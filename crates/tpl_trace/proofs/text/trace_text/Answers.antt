use Rattle.std.proofs.Common.{◌≡◌, ◌++◌, ◌∙◌, ap, codes}
use Rattle.serde_json.specs.Data.{array, object, member, no_members}
use Rattle.serde_json.specs.View.{view, items_of}
use Rattle.tpl_trace.specs.Trace.{trace_data}
use Rattle.tpl_trace.proofs.NoFloat.{no_float}
use Rattle.tpl_trace.proofs.text.trace_text.Goals as goal

pub returns : goal.returns
returns c =
    let n = c.args.graph.now in
    let h = c.args.events.now in
    let times = c.args.times.now in
    let value : view c.in_ok-trace_value.field-0 ≡ trace_data n times h =
    c.in_ok-trace_value.ensures ∙ ap (λ ds. object (member (codes "traceEvents") (array (items_of ds)) no_members)) c.in_ok-list.ensures in
    let text = rw value at c.in_ok-text.ensures.text in
    c.in_ok-push_str.ensures.bytes ∙ ap (λ bytes. bytes ++ codes "\n") (text (no_float n times h))
