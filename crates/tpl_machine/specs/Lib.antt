pub use Rattle.tpl_run.specs.Journal
pub use Rattle.tpl_run.specs.Reading
pub mod Kept
pub mod Settling
pub mod Recording
pub mod Marks
pub mod Gathering
pub mod Prelude
