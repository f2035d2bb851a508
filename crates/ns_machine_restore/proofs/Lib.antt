pub mod Limits
pub mod Same
pub mod Started
