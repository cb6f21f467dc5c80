pub mod Answer
pub mod Marks
pub mod Trace
pub mod Turns
pub mod Prelude
