pub mod JoinedTrails
pub mod SharedArcs
pub mod Searches
pub mod Stretches
pub mod Halving
