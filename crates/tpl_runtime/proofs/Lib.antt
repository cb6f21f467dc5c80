pub mod TurnLemmas
mod AskLemmas
mod WorkLemmas
pub mod Crosses
mod OrderLemmas
