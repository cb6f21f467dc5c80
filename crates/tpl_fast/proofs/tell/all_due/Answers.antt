use Rattle.std.proofs.Common.{length, sym, ap, ◌∙◌, subst, inl, inr, arith}
use Rattle.std.proofs.lemmas.Bool.{cases_eq}
use Rattle.tpl_draft.specs.Named.{Named}
use Rattle.tpl_fast.specs.Due.{IsRight}
use Rattle.tpl_fast.proofs.tell.all_due.Goals as goal

pub loop-i-preserved : goal.loop-i-preserved
loop-i-preserved c = record {
  each = λ t lt. elim (cases_eq t c.loop-i.i) [
    | inl same ↦ subst (λ z. IsRight c.args.state.now c.refresh.new.due z) (sym same)
        (c.refresh.ensures.told (let a = c.loop-i-test.true in let b = c.len-i-end.ensures.count in let e = ap (λ (n : Named). length n.graph.tasks) c.graph.ensures in omega arith))
    | inr apart ↦ c.refresh.ensures.kept.still t (c.loop-i.invariant.each t (omega arith))
  ];
  none = λ t le. c.refresh.ensures.kept.outside t le ∙ c.loop-i.invariant.none t le;
}
