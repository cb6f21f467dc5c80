pub mod Hidden
pub mod Spelling
pub mod Words
pub mod Reasons
pub mod Prelude
