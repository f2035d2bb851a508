pub mod Listing
pub mod Output
