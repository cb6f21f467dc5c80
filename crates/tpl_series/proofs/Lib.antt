pub mod ToldLemmas
