-- Lemmas on which the laws rest. No other crate cites them.
pub mod Stops
pub mod Faults
pub mod OneCut
pub mod OneStop
pub mod OneGap
pub mod OneKind
pub mod ReadNames
pub mod ReadRuns
pub mod ReadSymbols
pub mod Numbers
pub mod Refused
pub mod Strings
pub mod Operators
