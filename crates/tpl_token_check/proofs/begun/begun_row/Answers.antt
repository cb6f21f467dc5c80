use Rattle.std.proofs.Common.{ℕ, Bool, not, true, false, [], map, ap, sym, ◌∙◌}
use Rattle.tpl_draft.specs.Ids.{task_number}
use Rattle.tpl_model.specs.Knowledge.{IsSettled, IsRequested}
use Rattle.tpl_model.specs.Certificate.{Row}
use Rattle.tpl_trees.specs.Coding.{tokens_in}
use Rattle.tpl_laws.specs.LeastRows.{begun_row, tasks_where, tokens_where}
use Rattle.tpl_token_leaf.specs.declared.leaf.Leaf.{Leaf}
use Rattle.tpl_token_leaf.specs.Leaf.{graph_of, assumed_in, rows_in}
use Rattle.tpl_trees.proofs.TokenLists.{no_tokens_in}
use Rattle.tpl_token_check.proofs.RowLemmas.{row_is, token_row_is}
use Rattle.tpl_token_check.proofs.begun.begun_row.Goals as goal

-- the row of a task once it is known whether it has to run
abbrev row_unless : Leaf → ℕ → Bool → Row
row_unless leaf t runs = begun_row (graph_of leaf) (assumed_in leaf) (rows_in leaf) t (not runs)

pub begin_facts-requires-clause-begins : goal.begin_facts-requires-clause-begins
begin_facts-requires-clause-begins c = sym c.runs.ensures ∙ c.if-runs.false

pub returns-then-runs : goal.returns-then-runs
returns-then-runs c = c.blank_row.ensures ∙ ap (row_unless c.args.leaf.now c.args.task.0) (sym c.if-runs.true ∙ c.runs.ensures)

pub returns : goal.returns
returns c =
    let g = graph_of c.args.leaf.now in
    let begun = row_unless c.args.leaf.now c.args.task.0 false in
    token_row_is c.new-2.result begun.row begun.asked []
    (c.new-2.ensures.row
    ∙ row_is c.new-row.result begun.row.ends true begun.row.before [] [] c.new-row.ensures.ends c.new-row.ensures.runs
    (c.new-row.ensures.before ∙ (c.within-facts.ensures.tasks g c.requires.all ∙ (λ i. tasks_where g (λ x. c.begin_facts.ensures (IsSettled x) i))))
    (c.new-row.ensures.past ∙ c.empty.ensures) (c.new-row.ensures.chain ∙ ap (map task_number) c.new.ensures.items))
    (c.new-2.ensures.asked ∙ (c.within-facts.ensures.tokens g c.requires.all ∙ (λ i. tokens_where g (λ k. c.begin_facts.ensures (IsRequested k) i))))
    (c.new-2.ensures.asks ∙ (ap tokens_in c.empty-2.ensures ∙ no_tokens_in))
    ∙ ap (row_unless c.args.leaf.now c.args.task.0) (sym c.if-runs.false ∙ c.runs.ensures)
