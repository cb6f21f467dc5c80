use Rattle.tpl_commands.proofs.checking.check_with_tokens.Goals as goal

pub check_tokens-requires-clause-trees : goal.check_tokens-requires-clause-trees
check_tokens-requires-clause-trees c = rw c.trees.ensures (λ k t lt. (c.limits_law.ensures k t lt).0)
