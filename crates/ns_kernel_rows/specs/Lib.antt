pub mod Asked
pub mod Reaching
pub mod Parts
pub mod Plain
