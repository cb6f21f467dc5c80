pub mod Spelled
pub mod Givens
