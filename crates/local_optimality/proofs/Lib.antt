pub mod ClearSubpaths
pub mod TestedParts
pub mod Halvings
