pub mod Valuing
pub mod Stepping
pub mod Starting
pub mod Finishing
pub mod Heading
pub mod Coding
pub mod laws
