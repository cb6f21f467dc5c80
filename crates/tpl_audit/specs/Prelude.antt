-- The definitions that sources cite, passed on from one place. Declares nothing.
pub use Rattle.tpl_audit.specs.Audit.{FindsNoFailure, FirstFails, IsFirstRefused, IsVerdict, better}
pub use Rattle.tpl_audit.specs.Ending.{AreTasksOf, FirstOtherEnd, first_of}
pub use Rattle.tpl_audit.specs.Standing.{statuses}
pub use Rattle.tpl_audit.specs.Watching.{IsWatched, failure_noted_after, may_fail, may_request, noted_after, noted_at, noted_of}
