-- The definitions that sources cite, passed on from one place. Declares nothing.
pub use Rattle.tpl_each.specs.Ahead.{ahead_of, coming}
pub use Rattle.tpl_each.specs.Batches.{IsServed, IsStopped}
pub use Rattle.tpl_each.specs.Coming.{Comes}
pub use Rattle.tpl_each.specs.Gathering.{Gathers}
pub use Rattle.tpl_each.specs.Kept.{IsKept}
pub use Rattle.tpl_each.specs.Lines.{IsLine}
pub use Rattle.tpl_each.specs.Said.{head, headed, is_yes, numbered}
pub use Rattle.tpl_each.specs.Serving.{RespondsToEach}
pub use Rattle.tpl_each.specs.Slots.{IsSaidTo, said_of}
pub use Rattle.tpl_each.specs.Taking.{IsTaken}
