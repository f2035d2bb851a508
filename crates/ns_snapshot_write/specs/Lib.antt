pub mod Room
pub mod Segments
