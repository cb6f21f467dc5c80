pub mod Order
pub mod Lines
