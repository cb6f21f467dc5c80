-- What the top of a tree in memory is seen as.
use Rattle.tpl_model.specs.Certificate.{Tree, OnInput, OnEnd, OnWinner, RowsLeaf, LeastLeaf}
use Rattle.tpl_trees.specs.declared.tree.Node.{Node}
use Rattle.tpl_trees.specs.declared.tree.Node.TheVariants as node

abbrev pub node_of : Node → Tree
node_of (node.SplitInput i on_true on_false) = OnInput i.0 on_true.value on_false.value
node_of (node.SplitEnd t ran canceled faulted) = OnEnd t.0 ran.value canceled.value faulted.value
node_of (node.SplitWinner n x on_yes on_no) = OnWinner n.0 x.0 on_yes.value on_no.value
node_of (node.Leaf rows) = RowsLeaf rows.items
node_of node.Least = LeastLeaf
