pub mod Verdicts
pub mod Beside
pub mod AtHand
pub mod Asking
pub mod Filled
pub mod Witness
pub mod Serving
pub mod Prelude
