use Rattle.std.proofs.Common.{◌&&◌, ◌||◌, nat_lt, ap, ◌∙◌}
use Rattle.std.proofs.lemmas.Bool.{lt-ltb}
use Rattle.tpl_model.specs.Members.{mem}
use Rattle.tpl_model.specs.View.{known}
use Rattle.tpl_model.specs.Recursion.{reaches}
use Rattle.tpl_model.proofs.StartsSoFar.{may_start_lem}
use Rattle.tpl_model.proofs.starts.may_start_all.Goals as goal

pub returns-clause-members : goal.returns-clause-members
returns-clause-members c x lt =
    let w = known c.args.view.now in
    may_start_lem w c.args.script.now x _
    (c.add_starts_in.ensures.found.members x
    ∙ (ap (λ s. mem x s || (nat_lt x 1024 && reaches x w c.body.result.now)) c.empty-found.ensures
    ∙ (ap (λ t. t && reaches x w c.body.result.now) (lt-ltb x 1024 lt)
    ∙ ap (reaches x w) c.body.ensures.body)))
