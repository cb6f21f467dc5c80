-- The definitions that sources cite, passed on from one place. Declares nothing.
pub use Rattle.tpl_items.specs.Children.{AreChildren, AreChildrenBelow}
pub use Rattle.tpl_items.specs.Items.{AreItems, AreKnown, AreSingle, AreThere, RefusesItems, SayAt, SomeDiffers, count_of}
pub use Rattle.tpl_items.specs.Stock.{AreOthers, HasPlace, IfWorker, Takes, TakesKept, new_stock, unput_count}
pub use Rattle.tpl_items.specs.Tally.{Accounts, HeldAtOnce, HeldFewer, IsWhole, WasOldest, after_put, after_take, both, first_half, new_tally, second_half, times}
