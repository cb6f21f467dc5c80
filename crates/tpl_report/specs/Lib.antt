pub mod Made
pub mod Reported
pub mod Running
pub mod RunTexts
pub mod Faults
pub mod Prevents
pub mod Telling
pub mod Prelude
