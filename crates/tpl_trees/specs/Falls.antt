-- Each tree inside a tree is lower.
use Rattle.std.specs.Prelude.{◌≤◌}
use Rattle.std.proofs.Common.{arith}
use Rattle.tpl_trees.specs.declared.tree.Node.{Node}
use Rattle.tpl_trees.specs.declared.tree.Node.TheVariants as node
use Rattle.tpl_trees.specs.declared.tree.Tree.TheDeep.{deep-Node}
use Rattle.tpl_trees.specs.Trees.{node_of}
use Rattle.tpl_trees.specs.Heights.{height}

pub deepest_le-height : (n : Node) → deep-Node n ≤ height (node_of n)
deepest_le-height (node.SplitInput i on_true on_false) = omega arith
deepest_le-height (node.SplitEnd t ran canceled faulted) = omega arith
deepest_le-height (node.SplitWinner n x on_yes on_no) = omega arith
deepest_le-height (node.Leaf rows) = omega arith
deepest_le-height node.Least = omega arith
