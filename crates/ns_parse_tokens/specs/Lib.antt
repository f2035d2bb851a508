pub mod Read
pub mod Left
pub mod Mark
pub mod Name
pub mod Leaf
pub mod Pattern
pub mod Reads
pub mod laws
