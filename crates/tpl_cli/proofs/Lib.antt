pub mod GivenOptions
pub mod Lines
pub mod Commands
pub mod BoxLemmas
