pub mod Walked
pub mod Shaped
pub mod Below
