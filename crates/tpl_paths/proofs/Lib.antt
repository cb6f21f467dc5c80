pub mod TokenBits
pub mod Meets
pub mod Asks
pub mod Taking
pub mod GatheredSoFar
pub mod Nowhere
pub mod Agreements
