pub mod Steps
pub mod Over
pub mod Ahead
pub mod Behind
pub mod Again
pub mod Told
pub mod Kept
