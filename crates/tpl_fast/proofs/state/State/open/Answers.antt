use Rattle.std.proofs.Common.{ap, ◌∙◌, sym, subst, [], length}
use Rattle.tpl_run.specs.Journal.{opened}
use Rattle.tpl_fast.specs.Kept.{AreEnded, AreOver, AreFound}
use Rattle.tpl_fast.proofs.HeadLemmas.{heads_open, no_places, found_open, no_marks}
use Rattle.tpl_fast.specs.Marks.{AreMarks}
use Rattle.tpl_fast.proofs.TokenLemmas.{kept_open}
use Rattle.tpl_fast.proofs.state.State.open.Goals as goal

pub invariant_of-result : goal.invariant_of-result
invariant_of-result c =
    kept_open c.in_ok-machine.machine c.args.graph.now c.args.inputs c.in_ok-marks.marks.items c.none.result.itself c.none.result.closed c.in_ok-ended.ended.items c.in_ok-over.over.items c.in_ok-found.found.items
    c.in_ok-machine.ensures (subst (λ n. AreMarks n [] c.in_ok-marks.marks.items) c.len.ensures.count c.in_ok-marks.ensures)
    c.none.ensures.itself_count c.none.ensures.count c.none.ensures.itself c.none.ensures.closed
    (subst (λ xs. AreEnded (opened c.args.graph.now c.args.inputs) xs) (sym (c.in_ok-ended.ensures.items_if_clones_equal (λ y e. e) ∙ ap no_places c.len-2.ensures.count)) (heads_open (length c.args.graph.now.graph.tasks) _ _))
    (subst (λ xs. AreOver (opened c.args.graph.now c.args.inputs) xs) (sym (c.in_ok-over.ensures.items_if_clones_equal (λ y e. e) ∙ ap no_places c.len-3.ensures.count)) (heads_open (length c.args.graph.now.graph.tasks) _ _))
    (subst (λ xs. AreFound (opened c.args.graph.now c.args.inputs) xs) (sym (c.in_ok-found.ensures.items_if_clones_equal (λ y e. e) ∙ ap no_marks c.len-4.ensures.count)) (found_open (opened c.args.graph.now c.args.inputs)))
