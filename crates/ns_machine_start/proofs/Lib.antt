pub mod Made
pub mod Listed
pub mod Started
