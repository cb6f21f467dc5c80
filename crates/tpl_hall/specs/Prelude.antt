-- The definitions that sources cite, passed on from one place. Declares nothing.
pub use Rattle.tpl_hall.specs.Bound.{actor_at, worker_number}
pub use Rattle.tpl_hall.specs.Closes.{AllHoldAt, AllHoldBelow, AllLast, AllOwn, AllWithin, HoldsAt}
pub use Rattle.tpl_hall.specs.Lists.{Stands, all_seated, are_seated, is_seated}
pub use Rattle.tpl_hall.specs.Moves.{Fits, HasRoom, MatchLooked, MayAnswer, MayDo}
pub use Rattle.tpl_hall.specs.Sights.{IsOf, IsSeen, IsTrueOf, IsWithin}
pub use Rattle.tpl_hall.specs.Stays.{GoesAs, GoesOn, Leaves, MayEnd, MayGoOn, Stays}
pub use Rattle.tpl_hall.specs.Views.{SeatView}
pub use Rattle.tpl_hall.specs.Watched.{AllBegin, Begins}
