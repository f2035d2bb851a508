pub mod Asking
pub mod Performing
pub mod Quiet
pub mod Harmless
pub mod Kept
pub mod There
pub mod Tops
pub mod Making
