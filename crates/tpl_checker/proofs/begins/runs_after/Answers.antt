use Rattle.std.proofs.Common.{◌≡◌, ◌&&◌, ap, ◌∙◌}
use Rattle.tpl_model.specs.declared.finals.Final.{Final}
use Rattle.tpl_model.specs.Finals.{has}
use Rattle.tpl_model.specs.Options.{allows}
use Rattle.tpl_model.specs.Graph.{options}
use Rattle.tpl_model.specs.Certificate.{row, plain}
use Rattle.tpl_laws.specs.RowTests.{implies}
use Rattle.tpl_checker.proofs.Basics.{implies_each}
use Rattle.tpl_checker.proofs.begins.runs_after.Goals as goal

pub returns : goal.returns
returns c l =
    let g = c.args.graph.now.graph in
    let rows = (plain c.args.rows.now) in
    let runs : c.runs.result ≡ (row rows c.args.task.0).runs = c.runs.ensures ∙ ap (λ r. r.runs) c.row-2.ensures in
    let each : (f : Final) → has c.allowed-ends.result f ≡ (has (row rows c.args.antecedent.0).ends f && allows (options g c.args.task.0) f) =
    λ f. c.allowed-ends.ensures f ∙ (λ i. has ((c.ends.ensures ∙ ap (λ r. r.ends) c.row.ensures) i) f && allows (c.options.ensures i) f) in
    c.implies.ensures
    ∙ ((λ i. implies (c.some_end.ensures i) (runs i))
    ∙ implies_each (λ f. has (row rows c.args.antecedent.0).ends f) (λ f. allows (options g c.args.task.0) f) (has c.allowed-ends.result) (row rows c.args.task.0).runs each)
