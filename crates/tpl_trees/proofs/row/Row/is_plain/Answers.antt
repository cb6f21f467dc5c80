use Rattle.std.proofs.Common.{ap, sym, ◌∙◌}
use Rattle.tpl_model.proofs.Truths.{true_false}
use Rattle.tpl_trees.proofs.TokenLists.{none_within, within_none}
use Rattle.tpl_trees.proofs.row.Row.is_plain.Goals as goal

pub returns-then-is_subset : goal.returns-then-is_subset
returns-then-is_subset c =
    let asked = ap (λ r. r.asked) c.self.view_is in
    let asks = ap (λ r. r.asks) c.self.view_is in
    let none = c.empty-none.result in (
      (λ t. (
        sym asked ∙ none_within c.self.inside.asked none c.empty-none.ensures (c.is_subset.ensures.0 c.if-is_subset.true),
        sym asks ∙ none_within c.self.inside.asks none c.empty-none.ensures (c.is_subset-then-is_subset.ensures.0 t),
      )),
      (λ e. c.is_subset-then-is_subset.ensures.1 (within_none c.self.inside.asks none c.limit_law-2.ensures (asks ∙ e.1))),
    )

pub returns-else-is_subset : goal.returns-else-is_subset
returns-else-is_subset c =
    let asked = ap (λ r. r.asked) c.self.view_is in
    let none = c.empty-none.result in (
      (λ t. absurd (true_false (sym t ∙ c.if-is_subset.false))),
      (λ e. c.is_subset.ensures.1 (within_none c.self.inside.asked none c.limit_law.ensures (asked ∙ e.0))),
    )
