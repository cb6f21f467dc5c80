use Rattle.std.proofs.Common.{◌&&◌, ◌||◌, ap, not, nat_eq, ◌∙◌}
use Rattle.tpl_model.specs.Members.{mem}
use Rattle.tpl_checker.proofs.Assuming.{kept_left}
use Rattle.tpl_checker.proofs.left.Left.keeping.Goals as goal

pub returns : goal.returns
returns c =
    let t = c.args.task.0 in
    let ends = c.args.ends in
    kept_left c.args.self.now _ t ends
    (λ x. c.with_if.ensures x ∙ ap (λ z. not ends.ran && nat_eq x t || mem x z) c.copy.ensures.same)
    (λ x. c.with_if-2.ensures x ∙ ap (λ z. not ends.canceled && nat_eq x t || mem x z) c.copy-2.ensures.same)
    (λ x. c.with_if-3.ensures x ∙ ap (λ z. not ends.faulted && nat_eq x t || mem x z) c.copy-3.ensures.same)
