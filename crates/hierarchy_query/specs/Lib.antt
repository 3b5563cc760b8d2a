pub mod Climbs
pub mod Asks
pub mod Tables
pub mod KnownHills
pub mod Sources
