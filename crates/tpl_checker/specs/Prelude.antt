-- The definitions that sources cite, passed on from one place. Declares nothing.
pub use Rattle.tpl_checker.specs.AllEnds.{ended_together, no_argument, with_argument}
pub use Rattle.tpl_checker.specs.Assumptions.{AllTokens, assumed_of, nothing_assumed, with_ended, with_given, with_kept, with_own, with_quiet, with_sure}
pub use Rattle.tpl_checker.specs.Below.{AreBelow}
pub use Rattle.tpl_checker.specs.Bodies.{AreBodies, AreFirstBodies}
pub use Rattle.tpl_checker.specs.Left.{left_by}
pub use Rattle.tpl_checker.specs.Last.{IsLast}
pub use Rattle.tpl_checker.specs.Leaves.{Failing, fault_in, why}
