-- Laws of these definitions, for the crates above.
pub mod Filled
pub mod Items
pub mod Lawful
pub mod Leading
pub mod Leaving
pub mod Living
pub mod LivingItems
pub mod LivingValues
pub mod Outcomes
