pub mod Gr
pub mod Judging
pub mod Building
pub mod Reads
pub mod Gathering
pub mod Fast
pub mod Text
pub mod Messages
