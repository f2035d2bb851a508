-- Laws of these definitions, for the crates above.
pub mod Lawful
pub mod Leading
pub mod Living
