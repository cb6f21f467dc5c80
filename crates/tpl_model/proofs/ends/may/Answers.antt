use Rattle.std.proofs.Common.{true, ap, ◌∙◌}
use Rattle.tpl_model.specs.declared.verdict.Verdicts.{Verdicts}
use Rattle.tpl_model.specs.View.{known}
use Rattle.tpl_model.specs.Ends.{ends_in}
use Rattle.tpl_model.proofs.PathEnds.{may_return, may_throw, may_acknowledge, verdicts_of, told}
use Rattle.tpl_model.proofs.ends.may.Goals as goal

pub returns-clause-returned : goal.returns-clause-returned
returns-clause-returned c =
    let w = known c.args.view.now in
    let e = c.verdicts.ensures ∙ ap verdicts_of (c.ends_of.ensures ∙ ap (ends_in true w) c.body.ensures.body) in
    told _ _ (ap (λ (v : Verdicts). v.returned) e) (may_return w c.args.script.now)

pub returns-clause-thrown : goal.returns-clause-thrown
returns-clause-thrown c =
    let w = known c.args.view.now in
    let e = c.verdicts.ensures ∙ ap verdicts_of (c.ends_of.ensures ∙ ap (ends_in true w) c.body.ensures.body) in
    told _ _ (ap (λ (v : Verdicts). v.thrown) e) (may_throw w c.args.script.now)

pub returns-clause-acknowledged : goal.returns-clause-acknowledged
returns-clause-acknowledged c =
    let w = known c.args.view.now in
    let e = c.verdicts.ensures ∙ ap verdicts_of (c.ends_of.ensures ∙ ap (ends_in true w) c.body.ensures.body) in
    told _ _ (ap (λ (v : Verdicts). v.acknowledged) e) (may_acknowledge w c.args.script.now)
