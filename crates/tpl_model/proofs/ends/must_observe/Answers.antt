use Rattle.std.proofs.Common.{◌||◌, not, false, ap, ◌∙◌}
use Rattle.tpl_model.specs.declared.verdict.Verdicts.{Verdicts}
use Rattle.tpl_model.specs.View.{known}
use Rattle.tpl_model.specs.Ends.{ends_in}
use Rattle.tpl_model.proofs.PathEnds.{must_observe_lem, verdicts_of, told}
use Rattle.tpl_model.proofs.ends.must_observe.Goals as goal

pub returns : goal.returns
returns c =
    let w = known c.args.view.now in
    let e = c.verdicts.ensures ∙ ap verdicts_of (c.ends_of.ensures ∙ ap (ends_in false w) c.body.ensures.body) in
    told _ _ (c.is_empty.ensures ∙ ap (λ (v : Verdicts). not (v.returned || (v.thrown || v.acknowledged))) e) (must_observe_lem w c.args.script.now)
