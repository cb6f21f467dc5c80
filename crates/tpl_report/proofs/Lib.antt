pub mod AskLemmas
pub mod CrewLemmas
pub mod ReceiptLemmas
pub mod RunLemmas
pub mod StopLemmas
pub mod TellLemmas
