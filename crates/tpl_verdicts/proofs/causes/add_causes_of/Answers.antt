use Rattle.std.proofs.Common.{◌∙◌, ◌++◌, List, ap, codes, length, map, subst}
use Rattle.std.specs.Prelude.{string_bytes}
use Rattle.std.proofs.lemmas.Result.{on_ok_weaker}
use Rattle.tpl_model.specs.declared.event.Event.{Event}
use Rattle.tpl_causes.specs.declared.cause.Cause.{Cause}
use Rattle.tpl_causes.specs.Causes.{AreCauses, cause_lines}
use Rattle.tpl_verdicts.proofs.causes.add_causes_of.Goals as goal

pub returns : goal.returns
returns c =
    let causes = c.in_ok-causes.causes.items in
    let are = subst (λ (events : List Event). AreCauses (length events) causes) c.deref.ensures.value c.in_ok-causes.ensures in
    let old = map string_bytes c.args.lines.now.items in
    on_ok_weaker c.add_causes.result (λ told.
    (causes, are, told ∙ ap (λ (all : List Cause). old ++ cause_lines (codes "event") all) c.deref-2.ensures.value)) c.add_causes.ensures
