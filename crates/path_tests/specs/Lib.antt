pub mod JoinedTrail
pub mod Passing
pub mod Rectangle
