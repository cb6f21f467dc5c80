use Rattle.std.proofs.Common.{◌≡◌, ◌↔◌, true, ◌∙◌, subst}
use Rattle.tpl_model.specs.Members.{mem}
use Rattle.tpl_model.specs.Paths.{MayStartChild}
use Rattle.tpl_model.specs.Recursion.{may, none, is_throw}
use Rattle.tpl_model.specs.View.{known}
use Rattle.tpl_model.specs.Graph.{body}
use Rattle.tpl_model.specs.Certificate.{view, plain}
use Rattle.tpl_laws.specs.RowTests.{is_return, is_acknowledgement}
use Rattle.tpl_checker.specs.Assumptions.{assumed_of}
use Rattle.tpl_checker.proofs.BodyLemmas.{acknowledged_is, member_step, returned_is, started_step, thrown_is, with_body}
use Rattle.tpl_checker.proofs.bodies.Bodies.with.Goals as goal

pub returns : goal.returns
returns c first =
    let g = c.args.graph.now.graph in
    let l = assumed_of c.args.assumed.now in
    let rows = (plain c.args.rows.now) in
    let t = c.args.task.0 in
    let w = known c.view-view.result in
    let script = c.body-body.result.now in
    let found = c.may-verdicts.result in
    let law = c.may_is_right.ensures in
    with_body g l rows t _ (record {
      returned = λ x. member_step (λ t. may none is_return (view g l rows t) (body g t)) t x found.returned (mem x c.args.self.returned) (mem x c.with_if.result)
          (returned_is law w script found.returned c.may-verdicts.ensures.returned ∙ (λ i. may none is_return (c.view-view.ensures i) (c.body-body.ensures i))) (first.returned x) (c.with_if.ensures x);
      thrown = λ x. member_step (λ t. may none is_throw (view g l rows t) (body g t)) t x found.thrown (mem x c.args.self.thrown) (mem x c.with_if-2.result)
          (thrown_is law w script found.thrown c.may-verdicts.ensures.thrown ∙ (λ i. may none is_throw (c.view-view.ensures i) (c.body-body.ensures i))) (first.thrown x) (c.with_if-2.ensures x);
      acknowledged = λ x. member_step (λ t. may none is_acknowledgement (view g l rows t) (body g t)) t x found.acknowledged (mem x c.args.self.acknowledged) (mem x c.with_if-3.result)
          (acknowledged_is law w script found.acknowledged c.may-verdicts.ensures.acknowledged ∙ (λ i. may none is_acknowledgement (c.view-view.ensures i) (c.body-body.ensures i))) (first.acknowledged x) (c.with_if-3.ensures x);
      started = λ p x m. started_step g l rows c.valid_law.ensures.graph c.may_start_is_right.ensures t p x (mem x c.args.self.started) (mem x c.may_start_all-started.result) (mem x c.union.result) m
          (λ small. subst (λ b. (mem x c.may_start_all-started.result ≡ true) ↔ MayStartChild (view g l rows t) b x) c.body-body.ensures (subst (λ v. (mem x c.may_start_all-started.result ≡ true) ↔ MayStartChild v script x) c.view-view.ensures (c.may_start_all-started.ensures.members x small)))
          (first.started p x m) (c.union.ensures.members x);
    })
