pub mod Files
pub mod Lengths
pub mod Lists
pub mod Loads
pub mod Places
pub mod Sources
pub mod WholeLaws
pub mod Told
