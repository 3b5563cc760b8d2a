pub mod Basics
pub mod Walks
pub mod Dists
pub mod CanonicalWalks
pub mod Trails
pub mod Parts
