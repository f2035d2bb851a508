pub mod Sources
pub mod Texts
pub mod CanonicalSources
pub mod Numerals
pub mod Spelled
