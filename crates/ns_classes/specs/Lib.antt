pub mod Apply
pub mod Nested
pub mod Stated
pub mod lemmas
pub mod laws
