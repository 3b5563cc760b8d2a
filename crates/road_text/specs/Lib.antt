pub mod Lines
pub mod Fields
pub mod Numbers
pub mod Reader
pub mod Filling
pub mod Progress
pub mod Pieces
