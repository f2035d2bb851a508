pub mod Json
pub mod Objects
pub mod Report
pub mod Stats
pub mod Laws
