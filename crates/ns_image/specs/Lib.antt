pub mod Bytes
pub mod Read
pub mod Reads
pub mod Reading
pub mod Fault
pub mod laws
