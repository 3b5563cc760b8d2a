pub mod Cuts
pub mod LinkedVias
pub mod LinkReads
pub mod WholeChains
pub mod Gathered
pub mod Forked
pub mod Sound
