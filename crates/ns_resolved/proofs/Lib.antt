pub mod Places
pub mod Examples
mod Placing
mod Blocks
mod Declared
mod BlockNodes
mod Nesting
