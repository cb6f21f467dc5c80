use Rattle.std.proofs.Common.{not, Bool, ℕ, length, replicate, ap, sym, ◌∙◌}
use Rattle.tpl_laws.specs.RowTests.{parent_of}
use Rattle.tpl_laws.specs.LeastRows.{blank_row, family_step, is_attached_to}
use Rattle.tpl_token_check.specs.Case.{assumed_by, graph_by}
use Rattle.tpl_token_check.proofs.StepLemmas.{up_with, up_without}
use Rattle.tpl_token_check.proofs.least.least_rows.Goals.{then-not-is_attached+in_ok-family, else-not-is_attached}
use Rattle.tpl_token_check.proofs.least.least_rows.Goals as goal

pub loop-number-preserved : goal.loop-number-preserved
loop-number-preserved c =
    let test : ℕ → Bool = λ t. not (is_attached_to (graph_by c.args.case.now) t (parent_of (graph_by c.args.case.now) t)) in
    let family = family_step (graph_by c.args.case.now) (assumed_by c.args.case.now) c.args.case.now.property in
    let blank = replicate (length (graph_by c.args.case.now).tasks) blank_row in
    elim c.if-not-is_attached.branch [
      | then-not-is_attached+in_ok-family w ↦
          rw w.rows-is (up_with test family c.loop-number.number blank c.loop-number.invariant (ap not (sym c.is_attached.ensures ∙ w.if-not-is_attached.true)) w.in_ok-family.ensures)
      | else-not-is_attached w ↦ rw w.rows-is (up_without test family c.loop-number.number blank c.loop-number.invariant (ap not (sym c.is_attached.ensures ∙ w.if-not-is_attached.false)))
    ]
