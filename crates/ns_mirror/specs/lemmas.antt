-- Lemmas on which the laws rest. No other crate cites them.
pub mod Found
pub mod LivingEnclosing
pub mod LivingSlots
pub mod Named
pub mod Written
