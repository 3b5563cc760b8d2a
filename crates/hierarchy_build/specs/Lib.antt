pub mod Hills
pub mod Runs
pub mod Lengths
pub mod Links
pub mod Waits
pub mod Parts
pub mod Hierarchy
pub mod Own
