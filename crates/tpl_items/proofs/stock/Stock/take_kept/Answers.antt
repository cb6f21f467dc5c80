use Rattle.std.proofs.Common.{◌≡◌, ◌∙◌, Some, ap, length, refl}
use Rattle.std.proofs.lemmas.Option.{slice_get_read}
use Rattle.tpl_model.specs.declared.ids.Worker.{Worker}
use Rattle.tpl_items.proofs.stock.Stock.take_kept.Goals as goal

pub returns : goal.returns
returns g c =
    let within = rw c.as_slice.ensures.value at c.in_ok-place.ensures.place in
    let of_worker = rw c.as_slice.ensures.value at c.in_ok-place.ensures.worker c.remove.result in
    let oldest = rw c.as_slice.ensures.value at c.in_ok-place.ensures.first in
    let is_worker : c.remove.result.0 ≡ c.in-Worker.worker = rw c.remove.ensures.value of_worker in
    rw (← c.self.view_is) (record {
      taken = record {
        worker = c.in-Worker.worker;
        is_worker = c.in-Worker.is;
        place = c.in_ok-place.place;
        kept =
            slice_get_read c.self.inside.kept.items (length c.self.inside.kept.items) c.in_ok-place.place c.remove.result refl within c.remove.ensures.value
            ∙ ap (λ (w : Worker). Some (w, c.remove.result.1)) is_worker;
        oldest = oldest;
        rest = c.remove.ensures.items;
      };
      none = tt;
      rest = rw c.remove.ensures.capacity refl;
    })
