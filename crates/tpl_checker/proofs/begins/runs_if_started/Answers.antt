use Rattle.std.proofs.Common.{◌≡◌, Bool, ℕ, ap, ◌∙◌}
use Rattle.tpl_model.specs.Recursion.{reaches}
use Rattle.tpl_model.specs.Graph.{body}
use Rattle.tpl_model.specs.Certificate.{row, view, plain}
use Rattle.tpl_laws.specs.RowTests.{implies, by_parent}
use Rattle.tpl_checker.proofs.BodyLemmas.{started_of}
use Rattle.tpl_checker.proofs.begins.runs_if_started.Goals as goal

pub returns-in-Some : goal.returns-in-Some
returns-in-Some c l b =
    let g = c.args.graph.now.graph in
    let rows = (plain c.args.rows.now) in
    let t = c.args.task.0 in
    let p = c.in-Some.parent.0 in
    let test : ℕ → Bool = λ p. implies (row rows p).runs (implies (reaches t (view g l rows p) (body g p)) (row rows t).runs) in
    let parent_runs : c.runs.result ≡ (row rows p).runs = c.runs.ensures ∙ ap (λ r. r.runs) c.row-in-Some.ensures in
    let child_runs : c.runs-runs.result ≡ (row rows t).runs = c.runs-runs.ensures ∙ ap (λ r. r.runs) c.row.ensures in
    let starts : c.contains-starts.result ≡ reaches t (view g l rows p) (body g p) = c.contains-starts.ensures.member ∙ started_of g l rows c.args.bodies.now b p t c.in-Some.ensures.child in
    c.implies-in-Some.ensures
    ∙ ((λ i. implies (parent_runs i) ((c.implies.ensures ∙ (λ j. implies (starts j) (child_runs j))) i))
    ∙ ap (λ o. by_parent o test) c.in-Some.ensures.parent)
