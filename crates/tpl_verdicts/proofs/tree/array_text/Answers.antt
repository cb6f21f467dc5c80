use Rattle.tpl_commands.proofs.Proofs.{still}
use Rattle.tpl_verdicts.proofs.tree.array_text.Goals as goal

pub returns-clause-value : goal.returns-clause-value
returns-clause-value c =
    still _ _ c.trees_text.result c.written.result (λ text reads. reads (λ k t lt. (c.requires.within k t lt).0)) c.trees_text.ensures.reads c.written.ensures

pub returns-clause-read : goal.returns-clause-read
returns-clause-read c = still _ _ c.trees_text.result c.written.result (λ text spells. spells) c.trees_text.ensures.spells c.written.ensures
