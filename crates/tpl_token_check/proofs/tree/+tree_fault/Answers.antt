use Rattle.std.proofs.Common.{◌≡◌, ℕ, ◌<◌, ◌&&◌, ◌∙◌, true, false, ap, length, subst, arith}
use Rattle.std.proofs.lemmas.Result.{err_from_is_err_and}
use Rattle.tpl_trees.specs.Trees.{node_of}
use Rattle.tpl_model.specs.Certificate.{Tree}
use Rattle.tpl_laws.specs.TokenVerdict.{token_fits}
use Rattle.tpl_checker.proofs.TreeLemmas.{id_fits}
use Rattle.tpl_token_check.specs.Check.{graph_in}
use Rattle.tpl_token_leaf.specs.Leaf.{leaf_assumed}
use Rattle.tpl_token_check.proofs.TokenTreeLemmas.{loser_decides, one_more_split, winner_fails}
use Rattle.tpl_token_check.proofs.tree.+tree_fault.Goals.{In-SplitInput, In-SplitEnd}
use Rattle.tpl_token_check.proofs.tree.+tree_fault.Goals as goal

-- the ids of the splits are small
small_input : (t : ℕ) (c : In-SplitInput t) → c.in-SplitInput.input.0 < 16
small_input t c =
    let g = graph_in c.args.check.now in
    let lt = id_fits c.in-SplitInput.input.0 g.inputs (token_fits g c.in-SplitInput.on_true.value && token_fits g c.in-SplitInput.on_false.value) (subst (λ (z : Tree). token_fits g z ≡ true) (c.node.ensures ∙ ap node_of c.in-SplitInput.is) c.requires.fits) in
    omega (arith, lt, c.valid_law.ensures.graph.inputs)

small_task : (t : ℕ) (c : In-SplitEnd t) → c.in-SplitEnd.task.0 < 1024
small_task t c =
    let g = graph_in c.args.check.now in
    let lt = id_fits c.in-SplitEnd.task.0 (length g.tasks) (token_fits g c.in-SplitEnd.ran.value && (token_fits g c.in-SplitEnd.canceled.value && token_fits g c.in-SplitEnd.faulted.value))
    (subst (λ (z : Tree). token_fits g z ≡ true) (c.node.ensures ∙ ap node_of c.in-SplitEnd.is) c.requires.fits) in
    omega (arith, lt, c.valid_law.ensures.graph.tasks)

pub with_input-yes-requires : goal.with_input-yes-requires
with_input-yes-requires t c = small_input t (goal.at.with_input-yes-requires t c).In-SplitInput

pub with_input-no-requires : goal.with_input-no-requires
with_input-no-requires t c = small_input t (goal.at.with_input-no-requires t c).In-SplitInput

pub with_end-on_ran-requires : goal.with_end-on_ran-requires
with_end-on_ran-requires t c = small_task t (goal.at.with_end-on_ran-requires t c).In-SplitEnd

pub with_end-on_canceled-requires : goal.with_end-on_canceled-requires
with_end-on_canceled-requires t c = small_task t (goal.at.with_end-on_canceled-requires t c).In-SplitEnd

pub with_end-on_faulted-requires : goal.with_end-on_faulted-requires
with_end-on_faulted-requires t c = small_task t (goal.at.with_end-on_faulted-requires t c).In-SplitEnd

pub returns-in_err-next-in-SplitWinner : goal.returns-in_err-next-in-SplitWinner
returns-in_err-next-in-SplitWinner t c =
    let on_yes : c.deref-in-SplitWinner.result.now ≡ c.in-SplitWinner.on_yes.value = cc (c.deref-in-SplitWinner.ensures) in
    let p = err_from_is_err_and c.from_residual-in_err-next-in-SplitWinner.result c.from_residual-in_err-next-in-SplitWinner.ensures.1 in
    rw (p.1, p.2)
    (winner_fails (graph_in c.args.check.now) c.args.check.now.property c.args.check.now.claim c.args.first (leaf_assumed c.args.assumed.now c.args.winners.now) (c.node.ensures ∙ ap node_of c.in-SplitWinner.is)
    (one_more_split c.args.assumed.now c.args.winners.now c.as_slice.result.now c.in-SplitWinner.task c.in-SplitWinner.argument true (c.as_slice.ensures.value ∙ c.in_ok-yes-in-SplitWinner.ensures))
    on_yes c.in_err-next-in-SplitWinner.field-0.0 c.in_err-next-in-SplitWinner.ensures)

pub returns-in_ok-next-in-SplitWinner : goal.returns-in_ok-next-in-SplitWinner
returns-in_ok-next-in-SplitWinner t c =
    let on_yes : c.deref-in-SplitWinner.result.now ≡ c.in-SplitWinner.on_yes.value = cc (c.deref-in-SplitWinner.ensures) in
    let on_no : c.deref-in-SplitWinner-2.result.now ≡ c.in-SplitWinner.on_no.value = cc (c.deref-in-SplitWinner-2.ensures) in
    loser_decides (graph_in c.args.check.now) c.args.check.now.property c.args.check.now.claim c.args.first (leaf_assumed c.args.assumed.now c.args.winners.now) (c.node.ensures ∙ ap node_of c.in-SplitWinner.is)
    (one_more_split c.args.assumed.now c.args.winners.now c.as_slice.result.now c.in-SplitWinner.task c.in-SplitWinner.argument true (c.as_slice.ensures.value ∙ c.in_ok-yes-in-SplitWinner.ensures))
    on_yes (leaf_assumed c.args.assumed.now c.as_slice-in-SplitWinner.result.now) c.deref-in-SplitWinner-2.result.now c.in_ok-next-in-SplitWinner.next c.tree_fault-in-SplitWinner-2.result
    (one_more_split c.args.assumed.now c.args.winners.now c.as_slice-in-SplitWinner.result.now c.in-SplitWinner.task c.in-SplitWinner.argument false (c.as_slice-in-SplitWinner.ensures.value ∙ c.in_ok-no-in-SplitWinner.ensures))
    on_no c.in_ok-next-in-SplitWinner.ensures.0 c.in_ok-next-in-SplitWinner.ensures.1 c.tree_fault-in-SplitWinner-2.ensures
