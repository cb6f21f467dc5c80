pub mod Assumptions
pub mod Below
pub mod Left
pub mod Bodies
pub mod Last
pub mod Leaves
pub mod AllEnds
pub mod Prelude
