-- Laws of these definitions, for the crates above.
pub mod Finishing
