pub mod JudgeLemmas
pub mod GrLemmas
pub mod BuilderLemmas
pub mod ReadLemmas
pub mod FastLemmas
pub mod TextLemmas
pub mod WriteLemmas
