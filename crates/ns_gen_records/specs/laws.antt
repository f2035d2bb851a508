-- Laws of these definitions, for the crates above.
pub mod Bodies
pub mod Places
