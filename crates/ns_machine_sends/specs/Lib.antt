pub mod Going
pub mod Kept
pub mod Sending
pub mod Operands
pub mod Waiting
pub mod Opening
pub mod Blocks
pub mod laws
