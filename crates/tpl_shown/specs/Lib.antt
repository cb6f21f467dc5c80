pub mod Shown
pub mod Found
pub mod Answer
pub mod Prelude
