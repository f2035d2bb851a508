pub mod Found
pub mod Built
pub mod Stands
pub mod Alike
pub mod Outers
