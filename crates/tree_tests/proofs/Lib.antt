pub mod UpSteps
pub mod Climbs
pub mod Halves
pub mod Repeats
pub mod OnPaths
pub mod Pieces
