pub mod Division
pub mod Integer
