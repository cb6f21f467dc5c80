use Rattle.std.proofs.Common.{◌∙◌, ap, sym, subst, map}
use Rattle.std.specs.Prelude.{IsPermutation}
use Rattle.std.proofs.lemmas.Simd.{map-map}
use Rattle.tpl_hall.specs.Views.{SeatView}
use Rattle.tpl_runtime.specs.Workers.{workers}
use Rattle.tpl_runtime.proofs.run.answer_of.Goals as goal

pub returns-in-Some-clause-seats : goal.returns-in-Some-clause-seats
returns-in-Some-clause-seats g c n all =
    subst (λ l. IsPermutation (workers n) l) (sym (ap (λ l. map (λ (s : SeatView). s.actor) l) c.seats_of.ensures ∙ map-map (λ (s : SeatView). s.actor) (λ d. d.0) c.args.done.items)) all
