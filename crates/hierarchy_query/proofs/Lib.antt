pub mod Climbs
pub mod Meets
pub mod Asks
pub mod DistanceLists
pub mod KnownHills
pub mod Sources
