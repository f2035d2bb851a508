pub mod Place
pub mod Source
pub mod Loaded
pub mod Answer
pub mod Stated
