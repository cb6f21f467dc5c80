pub mod Winners
pub mod Links
pub mod Leaf
pub mod Ways
pub mod LeafRules
pub mod Narrowed
pub mod Prelude
