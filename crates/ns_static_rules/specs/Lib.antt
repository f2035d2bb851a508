pub mod Faults
pub mod Keeping
pub mod Least
pub mod LeastOf
pub mod Listing
pub mod Rules
pub mod Walk
pub mod laws
