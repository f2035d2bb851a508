pub mod Naming
pub mod Declaring
pub mod laws
