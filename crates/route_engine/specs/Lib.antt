pub mod Lineage
pub mod Oracles
pub mod Past
