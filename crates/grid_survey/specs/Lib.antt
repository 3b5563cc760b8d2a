pub mod Summary
pub mod Counting
