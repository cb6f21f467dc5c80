pub mod Lists
pub mod Breaks
pub mod Coming
pub mod Written
pub mod Answered
