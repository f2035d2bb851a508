-- Laws of these definitions, for the crates above.
pub mod Charged
pub mod Finds
pub mod Kept
pub mod Pushed
pub mod Sizes
pub mod Straight
pub mod Taken
pub mod Worlds
