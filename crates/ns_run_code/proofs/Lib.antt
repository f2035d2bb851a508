pub mod Resting
pub mod AtRest
pub mod Begun
pub mod Ends
pub mod Meant
pub mod Stored
