pub mod Reads
pub mod Onto
