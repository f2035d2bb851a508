-- Laws of these definitions, for the crates above.
pub mod Counting
pub mod Numbering
pub mod Places
pub mod Sits
