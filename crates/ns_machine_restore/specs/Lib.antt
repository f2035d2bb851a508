pub mod Restored
pub mod Laws
