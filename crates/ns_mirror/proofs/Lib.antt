pub mod Listing
pub mod Listed
pub mod Public
pub mod Found
pub mod Names
pub mod Reflecting
