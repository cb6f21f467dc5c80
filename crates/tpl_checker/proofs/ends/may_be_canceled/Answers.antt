use Rattle.std.proofs.Common.{◌≡◌, ◌&&◌, ◌||◌, not, ap, ◌∙◌}
use Rattle.tpl_model.specs.Finals.{has}
use Rattle.tpl_model.specs.Options.{allows, lazy_cancellation}
use Rattle.tpl_model.specs.Graph.{options}
use Rattle.tpl_model.specs.Certificate.{row, is_loud, plain}
use Rattle.tpl_laws.specs.RowTests.{some_end}
use Rattle.tpl_checker.specs.Assumptions.{assumed_of}
use Rattle.tpl_checker.proofs.Basics.{or_else_if, some_end_same}
use Rattle.tpl_checker.proofs.ends.may_be_canceled.Goals as goal

pub returns-else-by_token : goal.returns-else-by_token
returns-else-by_token c =
    let g = c.args.graph.now.graph in
    let l = assumed_of c.args.assumed.now in
    let rows = (plain c.args.rows.now) in
    let t = c.args.task.0 in
    let ends : c.ends-ends.result ≡ (row rows c.args.antecedent.0).ends = c.ends-ends.ensures ∙ ap (λ r. r.ends) c.row.ensures in
    let lazy : c.lazy_cancellation.result ≡ lazy_cancellation (options g t) = c.lazy_cancellation.ensures ∙ ap lazy_cancellation c.options-options.ensures in
    let some : c.some_end.result ≡ some_end (has (row rows c.args.antecedent.0).ends) = c.some_end.ensures ∙ ap (λ e. some_end (has e)) ends in
    or_else_if (is_loud g l t && not (lazy_cancellation (options g t))) (is_loud g l t && some_end (has (row rows c.args.antecedent.0).ends)) (some_end (λ f. has (row rows c.args.antecedent.0).ends f && not (allows (options g t) f)))
    c.canceled_by_token-by_token.result c.some_end-else-by_token.result
    (c.canceled_by_token-by_token.ensures ∙ (λ i. (c.is_loud-loud.ensures i && not (lazy i)) || (c.is_loud-loud.ensures i && some i))) c.if-by_token.false
    (c.some_end-else-by_token.ensures ∙ some_end_same (has c.excluded.result) (λ f. has (row rows c.args.antecedent.0).ends f && not (allows (options g t) f)) (λ f. c.excluded.ensures f ∙ (λ i. has (ends i) f && not (allows (c.options-options.ensures i) f))))
