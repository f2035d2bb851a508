-- Lemmas on which the laws rest. No other crate cites them.
pub mod Same
pub mod Keys
