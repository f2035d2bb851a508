pub mod Digits
pub mod Examples
pub mod SpacedScan
pub mod Texts
