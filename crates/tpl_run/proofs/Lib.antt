pub mod AtomLemmas
pub mod GraphLemmas
pub mod DueLemmas
pub mod TableLemmas
pub mod TokenLemmas
pub mod OneDue
pub mod Crosses
