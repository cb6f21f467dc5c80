use Rattle.std.proofs.lemmas.List.Elements.{All-get_or}
use Rattle.tpl_model.specs.Certificate.{IsPlain}
use Rattle.std.proofs.lemmas.Result.{err_from_is_err_and}
use Rattle.std.proofs.lemmas.List.{map-id}
use Rattle.tpl_cert.specs.Written.{has_ids, tree_data, HasSets}
use Rattle.tpl_cert.proofs.Ids.{unwritten_some}
use Rattle.tpl_cert.proofs.Tokens.{one_more, all_written}
use Rattle.tpl_cert.proofs.text.write_trees.Goals as goal

pub write_tree-requires : goal.write_tree-requires
write_tree-requires c = λ narrow. rw c.tree-item.is (All-get_or IsPlain c.args.trees.now c.loop-tree.tree-index c.tree-item.result c.loop-tree-test.true (c.requires narrow))

pub returns-in_err-write_tree : goal.returns-in_err-write_tree
returns-in_err-write_tree c =
    let p = err_from_is_err_and c.from_residual-in_err-write_tree.result c.from_residual-in_err-write_tree.ensures.1 in
    rw (p.1, p.2)
    (unwritten_some (has_ids c.args.graph.now.names) c.args.trees.now c.loop-tree.tree-index c.tree-item.result c.in_err-write_tree.field-0.0 c.loop-tree-test.true (rw (← c.tree-item.is) c.in_err-write_tree.ensures))

pub loop-tree-preserved : goal.loop-tree-preserved
loop-tree-preserved c =
    let e = c.in_ok-write_tree.ensures in
    let n = c.args.graph.now.names in
    one_more (λ t. t) (has_ids n) HasSets (tree_data c.args.rules n) c.args.trees.now c.loop-tree.tree-index c.tree-item.result _ c.loop-tree.out c.write_tree.new.out c.loop-tree-test.true c.loop-tree.invariant
    (rw (← c.tree-item.is) e.0) (rw (← c.tree-item.is) e.1.1) (rw (← c.tree-item.is) e.1.0)

pub returns : goal.returns
returns c =
    let n = c.args.graph.now.names in
    let all = rw map-id at (all_written (λ t. t) (has_ids n) HasSets (tree_data c.args.rules n) c.args.trees.now c.loop-tree.tree-index c.args.out.now c.begin_array.new.self c.loop-tree.out c.end_array.new.self c.loop-tree-test.false c.loop-tree.invariant (c.begin_array.ensures.room.0, c.in_ok-begin_array.ensures.ok) (c.end_array.ensures.room.0, c.in_ok-end_array.ensures.ok)) in
    (all.known, (all.puts, all.are))
