pub mod Marks
pub mod Tokens
pub mod Kept
pub mod Due
