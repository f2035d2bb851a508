pub mod Climbs
pub mod Keepers
pub mod Fitting
pub mod Seen
