-- Laws of these definitions, for the crates above.
pub mod Above
pub mod Chains
pub mod Changing
pub mod Charging
pub mod Classes
pub mod Firsts
pub mod Lasting
pub mod Lawfully
pub mod Leading
pub mod Making
pub mod Ordered
pub mod ShapeTests
pub mod Standing
pub mod Starts
pub mod Staying
pub mod Twins
pub mod Writing
