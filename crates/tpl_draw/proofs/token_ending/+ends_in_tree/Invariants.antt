use Rattle.tpl_draw.proofs.token_ending.+ends_in_tree.Given as goal

abbrev pub decreases-ends_in_tree : goal.decreases-ends_in_tree
decreases-ends_in_tree l = goal.size-ends_in_tree l
