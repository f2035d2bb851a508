-- Lemmas on which the laws rest. No other crate cites them.
pub mod FileFronts
pub mod Flats
pub mod GrammarFronts
pub mod ListedFronts
pub mod Rows
