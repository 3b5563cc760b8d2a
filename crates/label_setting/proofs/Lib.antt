pub mod Entries
pub mod Steps
pub mod Touches
pub mod Searches
pub mod Settles
pub mod Heaps
