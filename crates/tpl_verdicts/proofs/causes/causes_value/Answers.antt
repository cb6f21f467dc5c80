use Rattle.std.proofs.Common.{◌∙◌, List, ap, length, map, subst}
use Rattle.std.proofs.lemmas.Result.{IfOk-weaker}
use Rattle.tpl_model.specs.declared.event.Event.{Event}
use Rattle.tpl_causes.specs.declared.cause.Cause.{Cause}
use Rattle.tpl_causes.specs.Causes.{AreCauses}
use Rattle.tpl_verdicts.specs.Json.{cause_data}
use Rattle.tpl_verdicts.proofs.causes.causes_value.Goals as goal

pub returns : goal.returns
returns c =
    let causes = c.in_ok-causes.causes.items in
    let are = subst (λ (events : List Event). AreCauses (length events) causes) c.deref.ensures.value c.in_ok-causes.ensures in
    IfOk-weaker c.cause_values.result _ _ (λ values is.
    (causes, are, is ∙ ap (λ (all : List Cause). map cause_data all) c.deref-2.ensures.value)) c.cause_values.ensures
