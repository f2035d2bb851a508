pub mod Found
pub mod Asked
pub mod Walked
pub mod Kept
pub mod Climbed
