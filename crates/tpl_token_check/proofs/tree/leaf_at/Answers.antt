use Rattle.std.proofs.Common.{◌+◌, Option, List, map, ap, ◌∙◌, subst, sym, ◌<◌}
use Rattle.std.proofs.lemmas.Result.{err_from_is_err_and}
use Rattle.tpl_paths.specs.declared.reading.ChildEnd.{ChildEnd as StoredChildEnd}
use Rattle.tpl_paths.specs.Reading.{end_of}
use Rattle.tpl_laws.specs.Verdict.{LeafFault, at_leaf}
use Rattle.tpl_token_check.specs.Check.{graph_in}
use Rattle.tpl_token_check.specs.Faults.{FailingWithTokens}
use Rattle.tpl_token_check.proofs.TokenTreeLemmas.{ends_of_rows, leaf_fits, narrowed_leaf}
use Rattle.tpl_token_check.proofs.tree.leaf_at.Goals as goal

pub leaf_fault-requires-clause-leaf : goal.leaf_fault-requires-clause-leaf
leaf_fault-requires-clause-leaf c =
    let g = graph_in c.args.check.now in
    let rows = c.args.rows.now in
    let fit = leaf_fits g rows c.requires.fits in
    record {
      rows = fit.count;
      linked = c.requires.check.linked;
      ends = λ t lt. ends_of_rows rows c.as_slice.result.now (ap (λ (es : List StoredChildEnd). map end_of es) c.as_slice.ensures.value ∙ c.in_ok-ends.ensures) t (subst (λ n. t < n) (sym fit.count) lt);
      below = c.requires.check.below;
    }

pub leaf_fault-requires-clause-ids : goal.leaf_fault-requires-clause-ids
leaf_fault-requires-clause-ids c = (leaf_fits (graph_in c.args.check.now) c.args.rows.now c.requires.fits).ids

pub returns-in_err-ends : goal.returns-in_err-ends
returns-in_err-ends c = let p = err_from_is_err_and c.from_residual.result c.from_residual.ensures.1 in rw (p.1, p.2) tt

pub returns : goal.returns
returns c =
    let g = graph_in c.args.check.now in
    let p = c.args.check.now.property in
    subst (λ (o : Option LeafFault). FailingWithTokens (at_leaf c.args.check.now.claim c.args.number o) (c.args.number + 1) c.answer.result)
    (c.leaf_fault.ensures ∙ narrowed_leaf g p c.args.assumed.now c.narrowed-narrowed.result c.args.winners.now c.args.rows.now c.narrowed-narrowed.ensures)
    c.answer.ensures
