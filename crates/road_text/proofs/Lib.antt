pub mod FieldLemmas
pub mod NumberLemmas
pub mod LineLemmas
pub mod HeldLemmas
pub mod SkipLemmas
pub mod BeyondLemmas
pub mod PieceLemmas
