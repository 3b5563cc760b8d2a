pub mod Counts
pub mod Runs
pub mod Turned
pub mod Bound
pub mod Arcs
pub mod Changed
pub mod Stars
pub mod Batches
