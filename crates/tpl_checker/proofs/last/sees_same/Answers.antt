use Rattle.std.proofs.Common.{◌≡◌, inl, inr, sym, ap, subst, ◌∙◌, arith}
use Rattle.std.proofs.lemmas.Bool.{cases_eq, not-false}
use Rattle.tpl_model.proofs.Truths.{beq_same}
use Rattle.tpl_model.specs.Finals.{has}
use Rattle.tpl_model.specs.Graph.{kind}
use Rattle.tpl_model.specs.Certificate.{subject_set, plain}
use Rattle.tpl_checker.proofs.LastLemmas.{same_lists, same_possible, same_finals, same_view}
use Rattle.tpl_checker.proofs.last.sees_same.Goals as goal

pub loop-number-preserved : goal.loop-number-preserved
loop-number-preserved c =
    let g = c.args.graph.now.graph in
    let xs = (plain c.args.last.now.rows.now) in
    let ys = (plain c.args.rows.now) in
    let same = same_finals c.subject.result c.subject-in-loop-number.result (not-false _ (sym c.if-ne-4.ensures)) in
    λ t lt f. elim (cases_eq t c.loop-number.number) [
      | inl is ↦ subst (λ n. subject_set g xs n (kind g n) f ≡ subject_set g ys n (kind g n) f) (sym is)
          (sym (c.subject.ensures f) ∙ (ap (λ z. has z f) same ∙ c.subject-in-loop-number.ensures f))
      | inr other ↦ c.loop-number.invariant t (omega (arith, lt, other)) f
    ]

pub returns : goal.returns
returns c e t lt =
    same_view c.args.graph.now.graph c.args.last.now.assumed c.args.assumed.now (plain c.args.last.now.rows.now) (plain c.args.rows.now) t
    (same_lists _ same_possible c.args.last.now.assumed.inputs c.args.assumed.now.inputs (not-false _ (sym c.if-ne.ensures)))
    (same_lists _ beq_same c.args.last.now.assumed.quiet c.args.assumed.now.quiet (not-false _ (sym c.if-ne-2.ensures)))
    (same_lists _ beq_same c.args.last.now.assumed.sure c.args.assumed.now.sure (not-false _ (sym c.if-ne-3.ensures)))
    (c.loop-number.invariant t (omega (arith, lt, c.loop-number-test.false, c.len-number-end.ensures.count)))
