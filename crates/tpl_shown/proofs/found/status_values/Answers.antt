use Rattle.std.proofs.Common.{◌∙◌}
use Rattle.serde_json.specs.Data.{string}
use Rattle.serde_json.specs.View.{view}
use Rattle.serde_json.specs.declared.value.Value.{String}
use Rattle.tpl_model.specs.declared.status.Status.TheVariants.{Created}
use Rattle.tpl_model.specs.Statuses.{status_name}
use Rattle.tpl_json.proofs.Passes.{mapped_more}
use Rattle.tpl_shown.proofs.Values.{text_value}
use Rattle.tpl_shown.proofs.found.status_values.Goals as goal

pub loop-status-preserved : goal.loop-status-preserved
loop-status-preserved c =
    let text = c.in_ok-name.name in
    rw c.in_ok-push.ensures.items
    (mapped_more view string status_name c.loop-status.values.items c.args.statuses.now c.loop-status.status-index Created (String text) c.loop-status-test.true c.loop-status.invariant (text_value text _ (c.in_ok-name.ensures.ok ∙ c.name.ensures)))
