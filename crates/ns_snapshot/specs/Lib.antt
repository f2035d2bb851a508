pub mod Bytes
pub mod Fields
pub mod Reading
pub mod Fits
pub mod Snapshot
pub mod Laws
