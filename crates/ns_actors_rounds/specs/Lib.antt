pub mod Told
pub mod Parts
pub mod Stops
pub mod Left
pub mod Laws
pub mod Stated
pub mod Source
