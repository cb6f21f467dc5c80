mod ChildLemmas
mod CountLemmas
pub mod Crosses
pub mod Drained
pub mod Kept
pub mod Moments
pub mod Shares
pub mod Steps
