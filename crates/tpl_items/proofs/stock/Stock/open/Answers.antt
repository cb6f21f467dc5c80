use Rattle.std.proofs.Common.{refl}
use Rattle.tpl_items.proofs.stock.Stock.open.Goals as goal

pub returns : goal.returns
returns g c =
    record {
      stock = rw (c.from_vec.ensures.items, c.in-Ok.ensures.items_if_clones_equal (λ y e. e), c.in-Ok-with_capacity.ensures.items, c.in-Ok-with_capacity.ensures.exact, c.in-Ok-with_capacity-2.ensures.items, c.in-Ok-with_capacity-2.ensures.exact) refl;
      back = tt;
    }
