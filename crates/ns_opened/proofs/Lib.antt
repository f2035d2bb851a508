pub mod Faultless
pub mod Laying
pub mod Opening
pub mod Reading
pub mod Turning
