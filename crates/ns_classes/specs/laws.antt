-- Laws of these definitions, for the crates above.
pub mod Bounds
pub mod Entries
pub mod Lawfully
