pub mod Bodies
pub mod OptionWords
pub mod Truths
pub mod Ends
