-- Laws of these definitions, for the crates above.
pub mod Format
pub mod Fields
pub mod Loop
