pub mod ActLemmas
pub mod AddedLemmas
pub mod EndingLemmas
pub mod EachTask
