pub mod Rounding
pub mod Answering
