-- Laws of these definitions, for the crates above.
pub mod GoesOn
pub mod Names
