pub mod Moves
pub mod Replayed
