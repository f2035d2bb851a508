-- Laws of these definitions, for the crates above.
pub mod Belonging
pub mod Named
pub mod SoundBodies
