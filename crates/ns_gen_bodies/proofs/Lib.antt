pub mod Highest
pub mod Stepping
pub mod Starting
pub mod Finishing
pub mod Keeping
pub mod Routines
