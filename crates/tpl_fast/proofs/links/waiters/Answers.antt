use Rattle.std.proofs.Common.{◌≡◌, true, sym, ◌∙◌, subst, inl, inr, arith}
use Rattle.std.proofs.lemmas.Bool.{cases_eq}
use Rattle.tpl_fast.specs.Due.{is_told, waits}
use Rattle.tpl_fast.proofs.links.waiters.Goals as goal

pub loop-i-preserved : goal.loop-i-preserved
loop-i-preserved c = record {
  count = c.in_ok-tell_task.ensures.count ∙ c.loop-i.invariant.count;
  told = λ t x lt within w. elim (cases_eq t c.loop-i.i) [
    | inl same ↦ subst (λ z. is_told c.tell_task.new.lists.items x z ≡ true) (sym same)
        (c.in_ok-tell_task.ensures.told x (let e = c.loop-i.invariant.count in omega arith) (subst (λ z. waits c.args.graph.now.graph z x ≡ true) same w))
    | inr apart ↦ c.in_ok-tell_task.ensures.kept x t (c.loop-i.invariant.told t x (omega arith) within w)
  ];
}
