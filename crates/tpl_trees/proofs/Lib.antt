pub mod TokenLists
pub mod WithinLimits
