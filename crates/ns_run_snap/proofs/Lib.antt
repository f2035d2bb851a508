pub mod Going
pub mod Pausing
pub mod Resuming
pub mod Resumed
