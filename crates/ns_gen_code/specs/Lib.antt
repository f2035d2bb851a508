pub mod Code
pub mod Sizes
pub mod Uses
pub mod Stated
pub mod lemmas
pub mod laws
