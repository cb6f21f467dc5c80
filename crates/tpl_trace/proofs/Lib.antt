pub mod CrossingLemmas
pub mod EntryLemmas
pub mod NoFloat
pub mod Tracing
pub mod TrackLemmas
