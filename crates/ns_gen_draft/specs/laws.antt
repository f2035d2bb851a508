-- Laws of these definitions, for the crates above.
pub mod Keywords
pub mod Numbers
pub mod Writing
pub mod BlockCounts
pub mod Filling
