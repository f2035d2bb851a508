pub mod Classes
pub mod Ends
mod Examples
