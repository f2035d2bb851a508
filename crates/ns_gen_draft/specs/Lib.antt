pub mod Drafts
pub mod Keys
pub mod Standing
pub mod laws
pub mod Counting
