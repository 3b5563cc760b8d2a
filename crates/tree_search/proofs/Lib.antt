pub mod Ascending
pub mod FoundLabels
