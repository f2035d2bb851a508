-- Laws of these definitions, for the crates above.
pub mod Goes
pub mod Stepped
pub mod Looked
pub mod Operands
pub mod Received
pub mod Selves
pub mod Opened
