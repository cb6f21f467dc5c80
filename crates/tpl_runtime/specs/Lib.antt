pub mod Views
pub mod Promises
pub mod Turns
pub mod Reports
pub mod Puts
pub mod Workers
pub mod Prelude
