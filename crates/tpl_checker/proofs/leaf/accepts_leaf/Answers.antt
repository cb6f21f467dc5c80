use Rattle.std.proofs.Common.{◌∙◌, refl, sym}
use Rattle.tpl_model.proofs.Truths.{true_false}
use Rattle.tpl_checker.specs.Assumptions.{assumed_of}
use Rattle.tpl_checker.proofs.AcceptedLemmas.{accepted, fitting, is_plain}
use Rattle.tpl_checker.proofs.leaf.accepts_leaf.Goals as goal

pub returns-then-rows-len : goal.returns-then-rows-len
returns-then-rows-len c = (λ f. true_false (sym f), λ a. absurd (c.if-rows-len.true (a.0 ∙ sym c.len.ensures.count)))

pub returns-then-not-rows_fit : goal.returns-then-not-rows_fit
returns-then-not-rows_fit c =
    let g = c.args.graph.now.graph in
    let l = assumed_of c.args.assumed.now in (
      λ f. true_false (sym f),
      λ a. true_false (sym (c.rows_fit.ensures ∙ fitting g c.args.property l c.args.rows.now c.valid_law.ensures.graph c.first_broken_is_right.ensures c.proves_is_right.ensures a) ∙ c.if-not-rows_fit.true),
    )

pub returns-then-not-are_plain : goal.returns-then-not-are_plain
returns-then-not-are_plain c =
    let g = c.args.graph.now.graph in
    let l = assumed_of c.args.assumed.now in (
      λ f. true_false (sym f),
      λ a. true_false (sym (c.are_plain.ensures ∙ is_plain g c.args.property l c.args.rows.now c.valid_law.ensures.graph c.first_broken_is_right.ensures c.proves_is_right.ensures a) ∙ c.if-not-are_plain.true),
    )

pub returns-in-None : goal.returns-in-None
returns-in-None c =
    let g = c.args.graph.now.graph in
    let l = assumed_of c.args.assumed.now in (
      λ t. accepted g c.args.property l c.args.rows.now c.valid_law.ensures.graph c.first_broken_is_right.ensures c.proves_is_right.ensures (c.if-rows-len.false ∙ c.len.ensures.count) (sym c.rows_fit.ensures ∙ c.if-not-rows_fit.false) (sym c.are_plain.ensures ∙ c.if-not-are_plain.false) (sym c.in-None.ensures),
      λ a. refl,
    )
