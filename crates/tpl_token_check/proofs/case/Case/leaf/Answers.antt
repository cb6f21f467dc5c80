use Rattle.std.proofs.Common.{◌<◌, List, length, map, sym, subst, ap, ◌∙◌}
use Rattle.tpl_model.specs.Certificate.{Row}
use Rattle.tpl_paths.specs.declared.reading.ChildEnd.{ChildEnd as StoredChildEnd}
use Rattle.tpl_paths.specs.Reading.{end_of}
use Rattle.tpl_token_leaf.specs.Leaf.{row_end}
use Rattle.tpl_token_check.proofs.TokenTreeLemmas.{ends_of_rows}
use Rattle.tpl_token_check.proofs.case.Case.leaf.Goals as goal

pub returns-clause-leaf : goal.returns-clause-leaf
returns-clause-leaf c =
    let count = ap (λ (xs : List Row). length xs) c.as_slice.ensures.value ∙ c.requires.rows.count in
    record {
      rows = count;
      linked = c.requires.case.linked;
      ends = λ t lt. ends_of_rows c.as_slice.result.now c.as_slice-2.result.now
          (ap (λ (es : List StoredChildEnd). map end_of es) c.as_slice-2.ensures.value ∙ (c.requires.rows.ends ∙ ap (λ (xs : List Row). map row_end xs) (sym c.as_slice.ensures.value)))
          t (subst (λ n. t < n) (sym count) lt);
      below = c.requires.case.below;
    }
