pub mod Outcomes
pub mod Mixing
