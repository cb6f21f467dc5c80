-- The definitions that sources cite, passed on from one place. Declares nothing.
pub use Rattle.tpl_shown.specs.Answer.{AuditShown, IsAuditPage, IsUnread, ShowsAudit}
pub use Rattle.tpl_shown.specs.Found.{IsFound, IsFoundText, claims_data, ended_data, failure_data, other_data, refused_data, run_data, statuses_data}
pub use Rattle.tpl_shown.specs.Shown.{IsDocumentPage, shown}
