use Rattle.std.proofs.Common.{◌≡◌, Some, false, length, ap, ◌∙◌, subst, inl, inr, arith}
use Rattle.std.specs.Prelude.{slice_index_or}
use Rattle.std.proofs.lemmas.Bool.{cases_eq}
use Rattle.tpl_model.specs.Facts.{requested}
use Rattle.tpl_draft.specs.Named.{Named}
use Rattle.tpl_fast.specs.Due.{IsRight}
use Rattle.tpl_fast.proofs.IndexLemmas.{keeps_both}
use Rattle.tpl_fast.proofs.tell.tell_all_owners.Goals as goal

pub loop-i-preserved : goal.loop-i-preserved
loop-i-preserved c = record {
  told = λ t k is lt before differ. elim (cases_eq k c.loop-i.i) [
    | inl same ↦ c.tell_owners.ensures.told t (is ∙ ap Some same) lt
        (subst (λ z. requested c.args.state.now.graph c.args.state.now.inputs c.args.state.now.events z ≡ slice_index_or c.args.before.now z false → ⊥) same differ)
    | inr apart ↦ c.tell_owners.ensures.kept.still t (c.loop-i.invariant.told t k is lt (omega arith) differ)
  ];
  kept = keeps_both c.args.state.now (λ t s. IsRight c.args.state.now s t) c.args.due.now c.loop-i.due c.tell_owners.new.due c.loop-i.invariant.kept c.tell_owners.ensures.kept;
}

pub returns-clause-told : goal.returns-clause-told
returns-clause-told c = λ t k is lt within differ.
    c.loop-i.invariant.told t k is lt
    (let a = c.loop-i-test.false in let b = c.token_count-i-end.ensures.count in let e = ap (λ (n : Named). length n.graph.tokens) c.graph.ensures in omega arith)
    differ
