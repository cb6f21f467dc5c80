pub mod EntryLemmas
pub mod JsonLemmas
pub mod TreeLemmas
pub mod ReasonLemmas
pub mod Answering
pub mod AskedLemmas
pub mod Streamed
