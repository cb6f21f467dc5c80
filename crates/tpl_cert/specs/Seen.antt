-- What a tree with names in memory is seen as.
use Rattle.std.specs.Prelude.{map}
use Rattle.tpl_cert.specs.declared.named.NamedRow as declared
use Rattle.tpl_cert.specs.declared.named.NamedTree as tree
use Rattle.tpl_cert.specs.declared.named.NamedTree.TheOpen.{NamedTree-F}
use Rattle.tpl_cert.specs.NamedTrees.{NamedRow, NamedTree, SplitInput, SplitEnd, SplitWinner, Leaf, Least}

abbrev pub row_of : declared.NamedRow → NamedRow
row_of r = record { ends = r.ends; runs = r.runs; before = map (λ s. s.now) r.before.items; past = map (λ s. s.now) r.past.items; chain = map (λ s. s.now) r.chain.items; asked = map (λ s. s.now) r.asked.items; asks = map (λ s. s.now) r.asks.items }

-- one level, with the trees inside already seen
abbrev pub tree_step : NamedTree-F NamedTree → NamedTree
tree_step (NamedTree-F.Leaf rows) = Leaf (map row_of rows.items)
tree_step NamedTree-F.Least = Least
tree_step (NamedTree-F.SplitInput name first second) = SplitInput name.now first.value second.value
tree_step (NamedTree-F.SplitEnd name ran canceled faulted) = SplitEnd name.now ran.value canceled.value faulted.value
tree_step (NamedTree-F.SplitWinner task argument on_yes on_no) = SplitWinner task.now argument.now on_yes.value on_no.value

abbrev pub tree_of : tree.NamedTree → NamedTree
tree_of = tree.fold-NamedTree NamedTree tree_step
