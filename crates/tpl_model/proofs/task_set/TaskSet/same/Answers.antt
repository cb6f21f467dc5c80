use Rattle.std.proofs.Common.{subst}
use Rattle.tpl_model.specs.TaskSet.{IsSubset}
use Rattle.tpl_model.proofs.BitSets.{same_sets}
use Rattle.tpl_model.proofs.task_set.TaskSet.same.Goals as goal

pub returns-then-is_subset : goal.returns-then-is_subset
returns-then-is_subset c =
    let sets = c.is_subset.ensures.sets in
    let back = c.is_subset-then-is_subset.ensures.subset in (
      λ e. same_sets c.args.self.now c.args.other.now sets.0 sets.1 (c.is_subset.ensures.subset.0 c.if-is_subset.true) (back.0 e),
      λ e. back.1 (subst (λ xs. IsSubset xs c.args.self.now) e (λ x m. m)),
    )
