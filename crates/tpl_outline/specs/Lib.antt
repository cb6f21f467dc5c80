pub mod Stages
pub mod Fates
pub mod Shown
pub mod Prelude
