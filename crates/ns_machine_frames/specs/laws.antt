-- Laws of these definitions, for the crates above.
pub mod Counts
pub mod Room
pub mod Taking
