use Rattle.std.proofs.Common.{◌∙◌}
use Rattle.tpl_model.proofs.Truths.{same_tests}
use Rattle.tpl_model.specs.Recursion.{must_observe}
use Rattle.tpl_model.specs.View.{known}
use Rattle.tpl_checker.proofs.chain.observes.Goals as goal

pub returns : goal.returns
returns c =
    let w = known c.faulted_view.result in
    let script = c.body.result.now in
    let law = c.must_observe_is_right.ensures w script in
    same_tests c.must_observe.result (must_observe w script) (λ e. law.1 (c.must_observe.ensures.0 e)) (λ e. c.must_observe.ensures.1 (law.0 e))
    ∙ (λ i. must_observe (c.faulted_view.ensures i) (c.body.ensures i))
