use Rattle.std.proofs.Common.{◌≡◌, ap, ◌∙◌}
use Rattle.tpl_model.specs.Members.{mem}
use Rattle.tpl_model.specs.Knowledge.{Fact}
use Rattle.tpl_paths.specs.Facts.{has_fact}
use Rattle.tpl_token_leaf.specs.Leaf.{row_facts}
use Rattle.tpl_token_leaf.proofs.Rows.{by_fact}
use Rattle.tpl_token_check.proofs.rows.end_of_row.Goals as goal

pub returns : goal.returns
returns c =
    let facts : (f : Fact) → has_fact (record { tasks = c.copy.result; tokens = c.asks.result }) f ≡ row_facts c.args.row.now f =
    by_fact (λ f. has_fact (record { tasks = c.copy.result; tokens = c.asks.result }) f ≡ row_facts c.args.row.now f)
    (λ x. ap (mem x) (c.copy.ensures.same ∙ (c.past.ensures ∙ ap (λ r. r.past) c.row-2.ensures)))
    (λ k. c.asks.ensures.members k) in
    λ i. record { ends = (c.ends.ensures ∙ ap (λ r. r.ends) c.row.ensures) i; facts = λ f. facts f i }
