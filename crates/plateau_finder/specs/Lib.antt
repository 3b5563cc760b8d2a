pub mod Plateaus
pub mod Links
