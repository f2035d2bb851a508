pub mod Onward
pub mod Blocks
pub mod Stable
pub mod Sizes
pub mod Coded
pub mod Declarations
pub mod Whole
pub mod UnitByUnit
