pub mod Hands
pub mod Laid
pub mod Laws
