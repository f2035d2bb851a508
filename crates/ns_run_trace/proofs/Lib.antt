pub mod Ending
pub mod Near
pub mod Beginning
pub mod Telling
pub mod Lined
pub mod Counting
pub mod Trimmed
pub mod Standing
