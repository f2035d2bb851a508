pub mod All
pub mod Ascending
pub mod InOrder
pub mod laws
pub mod lemmas
