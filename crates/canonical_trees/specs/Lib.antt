pub mod Tight
pub mod Trees
pub mod Kept
