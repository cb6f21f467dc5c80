pub mod View
pub mod Numbers
pub mod Members
pub mod Passes
pub mod Finals
pub mod Prelude
