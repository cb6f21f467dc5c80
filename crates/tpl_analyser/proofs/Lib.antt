pub mod FoundLemmas
pub mod PlanLemmas
pub mod GapLemmas
pub mod SlimLemmas
