use Rattle.std.proofs.Common.{◌≡◌, ◌∙◌, rules, true, false, ap}
use Rattle.tpl_model.specs.declared.finals.Final.TheVariants.{RanToCompletion, Canceled, Faulted}
use Rattle.tpl_model.specs.TokenRules.{end_split, input_split}
use Rattle.tpl_laws.specs.TokenTrees.{written}
use Rattle.tpl_token_leaf.specs.Leaf.{leaf_assumed}
use Rattle.tpl_token_leaf.specs.Winners.{all_leave}
use Rattle.tpl_trees.specs.Trees.{node_of}
use Rattle.tpl_token_check.specs.Check.{graph_in}
use Rattle.tpl_token_check.proofs.TokenTreeLemmas.{one_more_split}
use Rattle.tpl_draw.specs.Endings.{either, tree_ends}
use Rattle.tpl_draw.proofs.EachTask.{branch_accepted, end_ends, input_ends, joins_both, joins_last, winner_accepted, winner_ends}
use Rattle.tpl_draw.proofs.token_ending.+ends_in_tree.Goals as goal

pub ends_in_tree-requires-in-SplitWinner : goal.ends_in_tree-requires-in-SplitWinner
ends_in_tree-requires-in-SplitWinner t c = (
  search rules,
  (
    c.requires.check,
    branch_accepted (graph_in c.args.check.now) c.args.check.now.property c.args.assumed.now c.args.winners.now c.as_slice-in-SplitWinner.result.now c.in-SplitWinner.task c.in-SplitWinner.argument false c.deref-in-SplitWinner.result.now c.in-SplitWinner.on_no.value
        (c.as_slice-in-SplitWinner.ensures.value ∙ c.in_ok-no-in-SplitWinner.ensures) c.deref-in-SplitWinner.ensures
        (winner_accepted (graph_in c.args.check.now) c.args.check.now.property (leaf_assumed c.args.assumed.now c.args.winners.now) c.args.tree.now c.in-SplitWinner.on_yes.value c.in-SplitWinner.on_no.value c.in-SplitWinner.task.0 c.in-SplitWinner.argument.0 (c.node.ensures ∙ ap node_of c.in-SplitWinner.is) c.requires.accepted).1,
  ),
)

pub ends_in_tree-requires-in-SplitWinner-2 : goal.ends_in_tree-requires-in-SplitWinner-2
ends_in_tree-requires-in-SplitWinner-2 t c = (
  search rules,
  (
    c.requires.check,
    branch_accepted (graph_in c.args.check.now) c.args.check.now.property c.args.assumed.now c.args.winners.now c.as_slice-in-SplitWinner-2.result.now c.in-SplitWinner.task c.in-SplitWinner.argument true c.deref-in-SplitWinner-2.result.now c.in-SplitWinner.on_yes.value
        (c.as_slice-in-SplitWinner-2.ensures.value ∙ c.in_ok-yes-in-SplitWinner.ensures) c.deref-in-SplitWinner-2.ensures
        (winner_accepted (graph_in c.args.check.now) c.args.check.now.property (leaf_assumed c.args.assumed.now c.args.winners.now) c.args.tree.now c.in-SplitWinner.on_yes.value c.in-SplitWinner.on_no.value c.in-SplitWinner.task.0 c.in-SplitWinner.argument.0 (c.node.ensures ∙ ap node_of c.in-SplitWinner.is) c.requires.accepted).0,
  ),
)

pub returns-in_ok-found-in-SplitInput : goal.returns-in_ok-found-in-SplitInput
returns-in_ok-found-in-SplitInput t c =
    let g = graph_in c.args.check.now in
    let p = c.args.check.now.property in
    let l = leaf_assumed c.args.assumed.now c.args.winners.now in
    let on = leaf_assumed c.with_input-yes.result c.args.winners.now in
    let off = leaf_assumed c.with_input-no.result c.args.winners.now in
    let i = c.in-SplitInput.input.0 in
    let is_on : on ≡ input_split l i true = λ j. record { assumed = c.with_input-yes.ensures j; wins = all_leave c.args.winners.now } in
    let is_off : off ≡ input_split l i false = λ j. record { assumed = c.with_input-no.ensures j; wins = all_leave c.args.winners.now } in
    joins_last (tree_ends (written g p on c.deref-in-SplitInput.result.now)) (tree_ends (written g p off c.deref.result.now)) (tree_ends (written g p l c.args.tree.now)) c.args.others.now c.as_slice.result.now c.in_ok-found-in-SplitInput.found.items c.ends_in_tree-in-SplitInput.result c.as_slice.ensures.value c.in_ok-found-in-SplitInput.ensures c.ends_in_tree-in-SplitInput.ensures
    (input_ends g p l on off c.args.tree.now c.deref-in-SplitInput.result.now c.deref.result.now c.in-SplitInput.on_true.value c.in-SplitInput.on_false.value i (c.node.ensures ∙ ap node_of c.in-SplitInput.is) is_on is_off c.deref-in-SplitInput.ensures c.deref.ensures)

pub returns-in_ok-found-in-SplitEnd-2 : goal.returns-in_ok-found-in-SplitEnd-2
returns-in_ok-found-in-SplitEnd-2 t c =
    let g = graph_in c.args.check.now in
    let p = c.args.check.now.property in
    let w = c.args.winners.now in
    let l = leaf_assumed c.args.assumed.now w in
    let x = leaf_assumed c.with_end-on_ran.result w in
    let y = leaf_assumed c.with_end-on_canceled.result w in
    let z = leaf_assumed c.with_end-on_faulted.result w in
    let s = c.in-SplitEnd.task.0 in
    let same_x : x ≡ end_split l s RanToCompletion = λ j. record { assumed = c.with_end-on_ran.ensures j; wins = all_leave w } in
    let same_y : y ≡ end_split l s Canceled = λ j. record { assumed = c.with_end-on_canceled.ensures j; wins = all_leave w } in
    let same_z : z ≡ end_split l s Faulted = λ j. record { assumed = c.with_end-on_faulted.ensures j; wins = all_leave w } in
    let ran = tree_ends (written g p x c.deref-in-SplitEnd-3.result.now) in
    let canceled = tree_ends (written g p y c.deref-in-SplitEnd-2.result.now) in
    let faulted = tree_ends (written g p z c.deref-in-SplitEnd.result.now) in
    joins_last ran (λ t. either (canceled t) (faulted t)) (tree_ends (written g p l c.args.tree.now)) c.args.others.now c.as_slice-in-SplitEnd-2.result.now c.in_ok-found-in-SplitEnd-2.found.items c.ends_in_tree-in-SplitEnd-3.result c.as_slice-in-SplitEnd-2.ensures.value
    (joins_both canceled faulted c.args.others.now c.as_slice-in-SplitEnd.result.now c.in_ok-found-in-SplitEnd.found.items c.in_ok-found-in-SplitEnd-2.found.items c.as_slice-in-SplitEnd.ensures.value c.in_ok-found-in-SplitEnd.ensures c.in_ok-found-in-SplitEnd-2.ensures)
    c.ends_in_tree-in-SplitEnd-3.ensures
    (end_ends g p l x y z c.args.tree.now c.deref-in-SplitEnd-3.result.now c.deref-in-SplitEnd-2.result.now c.deref-in-SplitEnd.result.now c.in-SplitEnd.ran.value c.in-SplitEnd.canceled.value c.in-SplitEnd.faulted.value s (c.node.ensures ∙ ap node_of c.in-SplitEnd.is) same_x same_y same_z c.deref-in-SplitEnd-3.ensures c.deref-in-SplitEnd-2.ensures c.deref-in-SplitEnd.ensures)

pub returns-in_ok-found-in-SplitWinner : goal.returns-in_ok-found-in-SplitWinner
returns-in_ok-found-in-SplitWinner t c =
    let g = graph_in c.args.check.now in
    let p = c.args.check.now.property in
    let a = c.args.assumed.now in
    let l = leaf_assumed a c.args.winners.now in
    let n = c.in-SplitWinner.task in
    let x = c.in-SplitWinner.argument in
    let on = leaf_assumed a c.as_slice-in-SplitWinner-2.result.now in
    let off = leaf_assumed a c.as_slice-in-SplitWinner.result.now in
    let is_on = one_more_split a c.args.winners.now c.as_slice-in-SplitWinner-2.result.now n x true (c.as_slice-in-SplitWinner-2.ensures.value ∙ c.in_ok-yes-in-SplitWinner.ensures) in
    let is_off = one_more_split a c.args.winners.now c.as_slice-in-SplitWinner.result.now n x false (c.as_slice-in-SplitWinner.ensures.value ∙ c.in_ok-no-in-SplitWinner.ensures) in
    joins_last (tree_ends (written g p on c.deref-in-SplitWinner-2.result.now)) (tree_ends (written g p off c.deref-in-SplitWinner.result.now)) (tree_ends (written g p l c.args.tree.now)) c.args.others.now c.as_slice-in-SplitWinner-3.result.now c.in_ok-found-in-SplitWinner.found.items c.ends_in_tree-in-SplitWinner-2.result c.as_slice-in-SplitWinner-3.ensures.value c.in_ok-found-in-SplitWinner.ensures c.ends_in_tree-in-SplitWinner-2.ensures
    (winner_ends g p l on off c.args.tree.now c.deref-in-SplitWinner-2.result.now c.deref-in-SplitWinner.result.now c.in-SplitWinner.on_yes.value c.in-SplitWinner.on_no.value n.0 x.0 (c.node.ensures ∙ ap node_of c.in-SplitWinner.is) is_on is_off c.deref-in-SplitWinner-2.ensures c.deref-in-SplitWinner.ensures)
