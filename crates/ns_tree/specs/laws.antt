-- Laws of these definitions, for the crates above.
pub mod FileFlats
pub mod Fronts
pub mod Made
pub mod Nodes
pub mod TreeFronts
