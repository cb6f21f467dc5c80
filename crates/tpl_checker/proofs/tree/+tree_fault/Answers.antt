use Rattle.std.proofs.Common.{◌≡◌, ℕ, ◌<◌, ◌&&◌, ◌∙◌, true, ap, length, subst, arith}
use Rattle.tpl_trees.specs.Trees.{node_of}
use Rattle.tpl_model.specs.Certificate.{Tree}
use Rattle.tpl_laws.specs.Verdict.{fits}
use Rattle.tpl_checker.proofs.TreeLemmas.{id_fits}
use Rattle.tpl_checker.proofs.tree.+tree_fault.Goals.{In-SplitInput, In-SplitEnd}
use Rattle.tpl_checker.proofs.tree.+tree_fault.Goals as goal

-- the ids of the splits are small
small_input : (t : ℕ) (c : In-SplitInput t) → c.in-SplitInput.input.0 < 16
small_input t c =
    let g = c.args.graph.now.graph in
    let lt = id_fits c.in-SplitInput.input.0 g.inputs (fits g c.in-SplitInput.on_true.value && fits g c.in-SplitInput.on_false.value) (subst (λ (z : Tree). fits g z ≡ true) (c.node.ensures ∙ ap node_of c.in-SplitInput.is) c.requires.fits) in
    omega (arith, lt, c.valid_law.ensures.graph.inputs)

small_task : (t : ℕ) (c : In-SplitEnd t) → c.in-SplitEnd.task.0 < 1024
small_task t c =
    let g = c.args.graph.now.graph in
    let lt = id_fits c.in-SplitEnd.task.0 (length g.tasks) (fits g c.in-SplitEnd.ran.value && (fits g c.in-SplitEnd.canceled.value && fits g c.in-SplitEnd.faulted.value)) (subst (λ (z : Tree). fits g z ≡ true) (c.node.ensures ∙ ap node_of c.in-SplitEnd.is) c.requires.fits) in
    omega (arith, lt, c.valid_law.ensures.graph.tasks)

pub with_input-yes-requires : goal.with_input-yes-requires
with_input-yes-requires t c = small_input t (goal.at.with_input-yes-requires t c).In-SplitInput

pub with_input-no-requires : goal.with_input-no-requires
with_input-no-requires t c = small_input t (goal.at.with_input-no-requires t c).In-SplitInput

pub with_end-on_ran-requires : goal.with_end-on_ran-requires
with_end-on_ran-requires t c = small_task t (goal.at.with_end-on_ran-requires t c).In-SplitEnd

pub with_end-on_canceled-requires : goal.with_end-on_canceled-requires
with_end-on_canceled-requires t c = small_task t (goal.at.with_end-on_canceled-requires t c).In-SplitEnd

pub with_end-on_faulted-requires : goal.with_end-on_faulted-requires
with_end-on_faulted-requires t c = small_task t (goal.at.with_end-on_faulted-requires t c).In-SplitEnd

pub returns-in-Leaf-clause-fault : goal.returns-in-Leaf-clause-fault
returns-in-Leaf-clause-fault t c = rw (c.node.ensures, c.in-Leaf.is) (rw c.deref-in-Leaf.ensures.value at c.leaf_at.ensures.fault)
