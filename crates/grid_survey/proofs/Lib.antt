pub mod Listings
pub mod Bounds
pub mod Progress
pub mod Grids
