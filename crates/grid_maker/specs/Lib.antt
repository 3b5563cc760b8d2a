pub mod Grid
pub mod Making
pub mod Messages
