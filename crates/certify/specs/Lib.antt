pub mod Written
pub mod Blocks
pub mod Starts
pub mod Reasons
pub mod Classes
pub mod Making
