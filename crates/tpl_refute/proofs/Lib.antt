pub mod JudgeLemmas
