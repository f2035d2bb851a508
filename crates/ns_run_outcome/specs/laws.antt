-- Laws of these definitions, for the crates above.
pub mod Cut
pub mod Parts
pub mod Plain
pub mod Styling
pub mod Told
