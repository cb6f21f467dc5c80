use Rattle.std.proofs.Common.{◌≡◌, IsTrue, List, sym, subst, ◌∙◌}
use Rattle.tpl_model.specs.declared.claim.Given.{Given}
use Rattle.tpl_model.specs.declared.claim.Property.{Property}
use Rattle.tpl_model.specs.declared.finals.Final.{Final}
use Rattle.tpl_model.specs.declared.ids.TaskId.{TaskId}
use Rattle.tpl_model.specs.Certificate.{Assumed, assumed, end_left}
use Rattle.tpl_model.specs.Finals.{has}
use Rattle.tpl_verify.specs.Verdicts.{EndsAsGiven}
use Rattle.tpl_verify.proofs.EmptyLemmas.{as_given, given_as}
use Rattle.tpl_verify.proofs.empty.ends_as_given.Goals as goal

pub returns-in-Final : goal.returns-in-Final
returns-in-Final c =
    let g = c.args.question.now.graph.now.graph in
    let given = c.args.question.now.claim.now.given in
    let is = sym c.in-Final.is ∙ c.body.ensures in
    let same : (f : Final) → has c.ends_left.result f ≡ end_left (assumed g given) c.in-Final.task.0 f =
    λ f. subst (λ (z : List Given). has c.ends_left.result f ≡ end_left (assumed g z) c.in-Final.task.0 f) c.given.ensures
    (subst (λ (z : Assumed). has c.ends_left.result f ≡ end_left z c.in-Final.task.0 f) c.assumed-left.ensures (c.ends_left.ensures f)) in (
      λ yes. subst (λ (p : Property TaskId). EndsAsGiven given p) is (as_given g given c.in-Final.task c.ends_left.result c.in-Final.ends same (c.is_subset.ensures.0 yes)),
      λ each. c.is_subset.ensures.1 (given_as g given c.in-Final.task c.ends_left.result c.in-Final.ends same (subst (λ (p : Property TaskId). EndsAsGiven given p) (sym is) each)),
    )
