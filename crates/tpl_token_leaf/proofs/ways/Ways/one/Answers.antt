use Rattle.std.proofs.Common.{◌≡◌, ◌||◌, false, refl, ap, sym, ◌∙◌}
use Rattle.tpl_model.proofs.Truths.{or_false}
use Rattle.tpl_model.specs.declared.finals.Final.{Final}
use Rattle.tpl_model.specs.declared.finals.Final.TheVariants.{RanToCompletion, Canceled, Faulted}
use Rattle.tpl_model.specs.Finals.{has, is_final}
use Rattle.tpl_token_leaf.proofs.WayLemmas.{one_way}
use Rattle.tpl_token_leaf.proofs.ways.Ways.one.Goals as goal

-- no way to end
none : (f : Final) → has (record { ran = false; canceled = false; faulted = false }) f ≡ false
none RanToCompletion = refl
none Canceled = refl
none Faulted = refl

pub returns : goal.returns
returns c holds way e h =
    one_way holds _ way c.args.facts
    (λ f. c.insert.ensures f ∙ (ap (λ z. is_final c.args.status f || z) (none f) ∙ (or_false (is_final c.args.status f) ∙ ap (λ z. is_final z f) (sym e)))) (λ fact. refl) h
