pub mod Told
pub mod Prelude
