use Rattle.tpl_cert.specs.Written.{has_ids, tree_data, HasSets}
use Rattle.tpl_cert.proofs.Tokens.{AreWritten}
use Rattle.tpl_cert.proofs.text.write_trees.Given as goal

abbrev pub invariant-loop-tree : goal.invariant-loop-tree
invariant-loop-tree l = AreWritten (λ t. t) (has_ids l.graph.names) HasSets (tree_data l.rules l.graph.names) l.trees l.tree-index l.initial.out l.out
