pub mod HoldsLemmas
pub mod WatchLemmas
pub mod FailLemmas
pub mod EndLemmas
pub mod RefusedLemmas
