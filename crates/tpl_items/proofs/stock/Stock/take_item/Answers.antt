use Rattle.std.proofs.Common.{refl}
use Rattle.tpl_items.proofs.stock.Stock.take_item.Goals as goal

pub returns-clause-rest : goal.returns-clause-rest
returns-clause-rest g c = rw (← c.self.view_is) refl
