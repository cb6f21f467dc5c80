pub mod Audit
pub mod Ending
pub mod Standing
pub mod Watching
pub mod Prelude
