pub mod Batches
pub mod Chunks
