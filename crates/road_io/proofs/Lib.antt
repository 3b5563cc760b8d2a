pub mod ToldLemmas
pub mod CountLemmas
pub mod SourceLemmas
pub mod SinkLemmas
