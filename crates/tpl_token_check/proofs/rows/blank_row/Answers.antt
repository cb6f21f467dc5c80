use Rattle.std.proofs.Common.{false, [], map, ap, ◌∙◌}
use Rattle.tpl_draft.specs.Ids.{task_number}
use Rattle.tpl_trees.specs.Coding.{tokens_in}
use Rattle.tpl_laws.specs.LeastRows.{blank_row}
use Rattle.tpl_trees.proofs.TokenLists.{no_tokens_in}
use Rattle.tpl_token_check.proofs.RowLemmas.{row_is, token_row_is}
use Rattle.tpl_token_check.proofs.rows.blank_row.Goals as goal

pub returns : goal.returns
returns c =
    token_row_is c.new-2.result blank_row.row [] []
    (c.new-2.ensures.row
    ∙ row_is c.new-row.result blank_row.row.ends false [] [] [] c.new-row.ensures.ends c.new-row.ensures.runs (c.new-row.ensures.before ∙ c.empty.ensures) (c.new-row.ensures.past ∙ c.empty-2.ensures) (c.new-row.ensures.chain ∙ ap (map task_number) c.new.ensures.items))
    (c.new-2.ensures.asked ∙ (ap tokens_in c.empty-3.ensures ∙ no_tokens_in)) (c.new-2.ensures.asks ∙ (ap tokens_in c.empty-4.ensures ∙ no_tokens_in))
