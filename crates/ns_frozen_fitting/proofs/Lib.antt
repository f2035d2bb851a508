pub mod Outwards
pub mod Alike
pub mod Fitted
