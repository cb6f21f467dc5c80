pub mod Sets
pub mod Heights
pub mod Coding
pub mod Trees
pub mod Falls
pub mod Prelude
