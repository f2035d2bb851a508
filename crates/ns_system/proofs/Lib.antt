pub mod Finished
pub mod Passed
pub mod Puts
pub mod Read
pub mod Taken
pub mod Unwritten
pub mod Untold
