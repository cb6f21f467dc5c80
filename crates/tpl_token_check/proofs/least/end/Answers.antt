use Rattle.std.proofs.Common.{subst, ◌∙◌, slice_set}
use Rattle.tpl_model.specs.Certificate.{Row}
use Rattle.tpl_laws.specs.LeastRows.{ended_row}
use Rattle.tpl_token_check.specs.Case.{graph_by}
use Rattle.tpl_token_check.specs.Rows.{AreRows}
use Rattle.tpl_token_check.proofs.RowLemmas.{has_end}
use Rattle.tpl_token_check.proofs.least.end.Goals as goal

pub put-requires-clause-ends : goal.put-requires-clause-ends
put-requires-clause-ends c = has_end (graph_by c.args.case.now) c.args.rows.now c.args.task.0 c.requires.rows c.requires.task

pub returns : goal.returns
returns c =
    subst (λ (row : Row). AreRows (graph_by c.args.case.now) (slice_set c.args.rows.now.rows.items c.args.task.0 row) c.put.new.self)
    (c.in_ok-row.ensures ∙ (λ i. ended_row (c.leaf.ensures.graph i) (c.leaf.ensures.assumed i) c.args.case.now.property (c.leaf.ensures.rows i) c.args.task.0)) (c.put.ensures (graph_by c.args.case.now) c.requires.rows)
