pub mod Number
pub mod Options
pub mod Usage
pub mod Line
pub mod Answering
pub mod Prelude
