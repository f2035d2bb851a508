pub mod Bodies
pub mod Chains
pub mod Names
pub mod Resolve
pub mod Scopes
pub mod Table
pub mod Whole
