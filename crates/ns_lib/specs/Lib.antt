pub mod Collections
pub mod Sample
