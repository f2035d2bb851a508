pub mod BlocksOf
pub mod Naming
pub mod Parts
pub mod Units
