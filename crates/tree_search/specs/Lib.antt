pub mod Ball
pub mod Oracle
