pub mod HallLemmas
pub mod GrowthLemmas
pub mod MoveLemmas
pub mod StayLemmas
pub mod ReportLemmas
pub mod Crosses
pub mod BoundLemmas
