use Rattle.std.proofs.Common.{◌≡◌, ◌&&◌, not, ap, ◌∙◌}
use Rattle.tpl_model.specs.declared.finals.Final.{Final}
use Rattle.tpl_model.specs.Finals.{has}
use Rattle.tpl_model.specs.Members.{mem}
use Rattle.tpl_model.specs.Options.{allows}
use Rattle.tpl_model.specs.Graph.{options, task}
use Rattle.tpl_model.specs.Certificate.{row, plain}
use Rattle.tpl_model.specs.Rules.{token_requested_by}
use Rattle.tpl_model.specs.TokenRules.{own_among, may_run, whole_row}
use Rattle.tpl_laws.specs.RowTests.{implies}
use Rattle.tpl_checker.proofs.Basics.{implies_each}
use Rattle.tpl_token_leaf.specs.Leaf.{graph_of, rows_in}
use Rattle.tpl_token_leaf.proofs.begins.runs_after.Goals as goal

pub returns : goal.returns
returns c =
    let g = graph_of c.args.leaf.now in
    let rows = rows_in c.args.leaf.now in
    let t = c.args.task.0 in
    let a = c.args.antecedent.0 in
    let own : c.own_among-known.result ≡ own_among g t (λ k. mem k (whole_row rows a).asks) = c.own_among-known.ensures ∙ (λ i. token_requested_by (task g t).token (λ k. c.asks.ensures k i)) in
    let each : (f : Final) → has c.allowed.result f ≡ (has (row (plain rows) a).ends f && allows (options g t) f) =
    λ f. c.allowed.ensures f ∙ (λ i. has ((c.ends.ensures ∙ ap (λ r. r.ends) c.row.ensures) i) f && allows (c.options.ensures i) f) in
    c.implies-2.ensures
    ∙ ((λ i. implies (c.some_end-may_follow.ensures i) ((c.implies.ensures ∙ (λ j. implies (not (own j)) (c.may_run-runs.ensures j))) i))
    ∙ implies_each (λ f. has (row (plain rows) a).ends f) (λ f. allows (options g t) f) (has c.allowed.result) (implies (not (own_among g t (λ k. mem k (whole_row rows a).asks))) (may_run rows t)) each)
