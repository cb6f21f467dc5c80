use Rattle.std.proofs.Common.{ap, ◌∙◌}
use Rattle.tpl_model.specs.declared.starts.Starts.{Starts}
use Rattle.tpl_model.specs.View.{known}
use Rattle.tpl_model.specs.Starts.{start_in}
use Rattle.tpl_model.proofs.StartsSoFar.{may_start_lem}
use Rattle.tpl_model.proofs.starts.may_start.Goals as goal

pub returns : goal.returns
returns c =
    let w = known c.args.view.now in
    may_start_lem w c.args.script.now c.args.child.0 _ (ap (λ (s : Starts). s.started) (c.start_in.ensures ∙ ap (start_in c.args.child.0 w) c.body.ensures.body))
