pub mod Computed
mod Roots
mod ValidDecided
mod WinnerNeeded
