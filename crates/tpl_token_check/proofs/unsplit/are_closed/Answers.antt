use Rattle.std.proofs.Common.{◌∙◌, length, refl, sym}
use Rattle.tpl_model.proofs.Truths.{true_false}
use Rattle.tpl_model.specs.Certificate.{plain}
use Rattle.tpl_laws.specs.Verdict.{rows_fit}
use Rattle.tpl_laws.specs.TokenTests.{token_first_broken}
use Rattle.tpl_checker.specs.Leaves.{fault_in, why}
use Rattle.tpl_token_check.specs.Case.{assumed_by, graph_by}
use Rattle.tpl_token_check.proofs.LeastFits.{least_rows_fit}
use Rattle.tpl_token_check.proofs.UnsplitLemmas.{no_some}
use Rattle.tpl_token_check.proofs.unsplit.are_closed.Goals as goal

pub first_broken-requires-clause-ids : goal.first_broken-requires-clause-ids
first_broken-requires-clause-ids c =
    let case = c.args.case.now in
    let same = c.leaf.ensures.rows ∙ c.requires.rows in
    (λ i. rows_fit (c.leaf.ensures.graph i) (plain (same i))) ∙ (least_rows_fit (graph_by case) (assumed_by case) case.property).ids

pub returns-in-None : goal.returns-in-None
returns-in-None c =
    let rows = c.leaf.ensures.rows ∙ c.requires.rows in
    let here = c.first_broken.ensures ∙ (λ i. token_first_broken (c.leaf.ensures.graph i) (c.leaf.ensures.assumed i) (rows i) 0 (length (c.leaf.ensures.graph i).tasks)) in
    (λ e. sym here ∙ (λ i. fault_in (c.in-None.is i)), λ e. refl)

pub returns-in-Some : goal.returns-in-Some
returns-in-Some c =
    let rows = c.leaf.ensures.rows ∙ c.requires.rows in
    let here = c.first_broken.ensures ∙ (λ i. token_first_broken (c.leaf.ensures.graph i) (c.leaf.ensures.assumed i) (rows i) 0 (length (c.leaf.ensures.graph i).tasks)) in
    let some = sym here ∙ (λ i. fault_in (c.in-Some.is i)) in
    (λ e. true_false (sym e), λ e. no_some (why c.in-Some.field-0) (sym some ∙ e))
