pub mod Snapped
pub mod Resumed
pub mod Laws
