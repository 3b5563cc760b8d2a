pub mod Candidates
pub mod Settings
pub mod Judging
pub mod Asks
pub mod Listing
pub mod Sifting
pub mod Forking
pub mod Through
