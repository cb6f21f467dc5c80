-- Bodies with ids have as many statements and levels as those with names.
use Rattle.std.proofs.Common.{◌≡◌, ◌+◌, ◌≤◌, max, refl, sym, ap, ◌∙◌, subst}
use Rattle.tpl_model.specs.Limits.{statement_count, count_one, level_count, levels_in, IsWithinLimits}
use Rattle.tpl_draft.specs.Draft.{Line, Lines, If, When, Nothing, Then, line_count, count_line, levels}
use Rattle.tpl_draft.specs.Draft as draft
use Rattle.tpl_draft.specs.Named.{Names}
use Rattle.tpl_draft.specs.Numbered.{script_in, statement_in}
use Rattle.tpl_graph.specs.Small.{IsSmall}

mutual
  pub count_same : (n : Names) (b : Lines) → statement_count (script_in n b) ≡ line_count b
  count_same n Nothing = refl
  count_same n (Then s rest) = ap (λ k. k + statement_count (script_in n rest)) (count_one_same n s) ∙ ap (λ k. count_line s + k) (count_same n rest)

  count_one_same : (n : Names) (s : Line) → count_one (statement_in n s) ≡ count_line s
  count_one_same n (If i a b) = ap (λ k. 1 + k + statement_count (script_in n b)) (count_same n a) ∙ ap (λ k. 1 + line_count a + k) (count_same n b)
  count_one_same n (When f a b) = ap (λ k. 1 + k + statement_count (script_in n b)) (count_same n a) ∙ ap (λ k. 1 + line_count a + k) (count_same n b)
  count_one_same n s = refl

mutual
  pub levels_same : (n : Names) (b : Lines) → level_count (script_in n b) ≡ levels b
  levels_same n Nothing = refl
  levels_same n (Then s rest) = ap (λ k. max k (level_count (script_in n rest))) (levels_in_same n s) ∙ ap (λ k. max (draft.levels_in s) k) (levels_same n rest)

  levels_in_same : (n : Names) (s : Line) → levels_in (statement_in n s) ≡ draft.levels_in s
  levels_in_same n (If i a b) = ap (λ k. 1 + max k (level_count (script_in n b))) (levels_same n a) ∙ ap (λ k. 1 + max (levels a) k) (levels_same n b)
  levels_in_same n (When f a b) = ap (λ k. 1 + max k (level_count (script_in n b))) (levels_same n a) ∙ ap (λ k. 1 + max (levels a) k) (levels_same n b)
  levels_in_same n s = refl

pub small_script : (n : Names) (b : Lines) → IsSmall b → IsWithinLimits (script_in n b)
small_script n b small =
    (subst (λ k. k ≤ 64) (sym (count_same n b)) small.0, subst (λ k. k ≤ 8) (sym (levels_same n b)) small.1)
