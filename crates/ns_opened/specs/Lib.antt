pub mod Laid
pub mod Opened
pub mod Host
