pub mod Sending
pub mod Setting
pub mod Cascading
pub mod laws
