pub mod Values
pub mod Shows
