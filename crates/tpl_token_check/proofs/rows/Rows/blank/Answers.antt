use Rattle.std.proofs.Common.{◌≡◌, List, [], ◌∷◌, ◌++◌, length, map, replicate, ap, ◌∙◌, arith}
use Rattle.std.proofs.lemmas.List.{length-replicate, replicate_more}
use Rattle.tpl_model.specs.Certificate.{Row}
use Rattle.tpl_laws.specs.LeastRows.{blank_row}
use Rattle.tpl_token_leaf.specs.Leaf.{row_end}
use Rattle.tpl_token_check.proofs.rows.Rows.blank.Goals as goal

pub loop-init : goal.loop-init
loop-init c = c.new-rows.ensures.items

pub loop-preserved : goal.loop-preserved
loop-preserved c = c.in_ok-push.ensures.items ∙ ((λ i. c.loop.invariant i ++ c.blank_row.ensures i ∷ []) ∙ replicate_more c.loop.counter blank_row)

pub returns : goal.returns
returns c =
    let n = length c.args.graph.now.graph.tasks in
    let all : c.loop.counter ≡ n = omega arith in
    let same : c.loop.rows.items ≡ replicate n blank_row = c.loop.invariant ∙ ap (λ k. replicate k blank_row) all in
    record {
      same = same;
      kept = record {
        count = ap (λ (xs : List Row). length xs) same ∙ length-replicate n blank_row;
        ends = c.in_ok-ends.ensures ∙ ap (λ (xs : List Row). map row_end xs) c.as_slice.ensures.value;
      };
    }
