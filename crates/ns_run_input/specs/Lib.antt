pub mod Input
pub mod Stated
pub mod laws
