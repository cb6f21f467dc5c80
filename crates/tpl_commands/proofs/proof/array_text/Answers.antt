use Rattle.tpl_commands.proofs.Proofs.{still}
use Rattle.tpl_commands.proofs.proof.array_text.Goals as goal

pub returns-clause-written : goal.returns-clause-written
returns-clause-written c = still _ _ c.trees_text.result c.written.result (λ text is. is) (rw c.trees.ensures at c.trees_text.ensures.written) c.written.ensures

pub returns-clause-read : goal.returns-clause-read
returns-clause-read c = still _ _ c.trees_text.result c.written.result (λ text spells. spells) (rw c.trees.ensures at c.trees_text.ensures.spells) c.written.ensures

pub returns-clause-value : goal.returns-clause-value
returns-clause-value c =
    still _ _ c.trees_text.result c.written.result (λ text reads. reads (λ k t lt. (c.limits_law.ensures k t lt).0)) (rw c.trees.ensures at c.trees_text.ensures.reads) c.written.ensures
