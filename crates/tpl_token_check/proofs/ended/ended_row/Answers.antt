use Rattle.std.proofs.Common.{◌≡◌, ap, ◌∙◌}
use Rattle.tpl_model.specs.declared.finals.Final.TheVariants.{RanToCompletion, Canceled, Faulted}
use Rattle.tpl_model.specs.TokenRules.{kind_left}
use Rattle.tpl_laws.specs.LeastRows.{ended_by, ends_where, has_to_end_so}
use Rattle.tpl_token_leaf.specs.Leaf.{graph_of, assumed_in, rows_in}
use Rattle.tpl_checker.proofs.Basics.{plain_row}
use Rattle.tpl_token_check.proofs.RowLemmas.{row_is, token_row_is}
use Rattle.tpl_token_check.proofs.ended.ended_row.Goals as goal

pub returns : goal.returns
returns c =
    let g = graph_of c.args.leaf.now in
    let l = assumed_in c.args.leaf.now in
    let rows = rows_in c.args.leaf.now in
    let t = c.args.task.0 in
    let p = c.args.property in
    let ends = c.demanded-ends.result in
    let row = ended_by g l p rows t ends in
    let begun = ap (λ r. r.row) c.whole_row-begun.ensures ∙ plain_row rows t in
    let same : ends ≡ ends_where (has_to_end_so g l rows t (kind_left g l t)) =
    λ i. record { ran = c.demanded-ends.ensures RanToCompletion i; canceled = c.demanded-ends.ensures Canceled i; faulted = c.demanded-ends.ensures Faulted i } in
    token_row_is c.new.result row.row row.asked row.asks
    (c.new.ensures.row
    ∙ row_is c.new-row.result ends row.row.runs row.row.before row.row.past row.row.chain c.new-row.ensures.ends
    (c.new-row.ensures.runs ∙ (c.runs.ensures ∙ ap (λ r. r.runs) (c.row-2.ensures ∙ begun)))
    (c.new-row.ensures.before ∙ (c.copy-before.ensures.same ∙ (c.before-2.ensures ∙ ap (λ r. r.before) (c.row.ensures ∙ begun))))
    (c.new-row.ensures.past ∙ c.said_of_end-facts.ensures.tasks p) (c.new-row.ensures.chain ∙ c.in_ok-chain.ensures))
    (c.new.ensures.asked ∙ (c.asked.ensures.list ∙ ap (λ r. r.asked) c.whole_row-begun.ensures)) (c.new.ensures.asks ∙ c.said_of_end-facts.ensures.tokens p)
    ∙ ap (ended_by g l p rows t) same
