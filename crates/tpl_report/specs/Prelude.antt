-- The definitions that sources cite, passed on from one place. Declares nothing.
pub use Rattle.tpl_report.specs.Faults.{close_stop, open_stop, run_stop, seat_stop}
pub use Rattle.tpl_report.specs.Made.{GoesOn, HasAsked, HaveAsked, HaveRun, IsMadeBy, asks, is_request, requests_of}
pub use Rattle.tpl_report.specs.Prevents.{Prevents, StopsFor, StopsSession}
pub use Rattle.tpl_report.specs.Reported.{IsReport, told}
pub use Rattle.tpl_report.specs.RunTexts.{fault_line}
pub use Rattle.tpl_report.specs.Running.{Runs, ServesRun, stop_exit, stop_text}
pub use Rattle.tpl_report.specs.Telling.{IsToldOf, PutsTelling, report_exit, with_events}
