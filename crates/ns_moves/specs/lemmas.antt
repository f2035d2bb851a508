-- Lemmas on which the laws rest. No other crate cites them.
pub mod Counts
pub mod Fitting
pub mod Lasting
pub mod Later
pub mod LawfulBodies
pub mod LawfulClasses
pub mod LawfulRows
pub mod Nesting
pub mod Opening
pub mod OwnSelector
pub mod Places
pub mod RowsFew
pub mod RowsSuit
pub mod Running
pub mod SitesStay
pub mod Suiting
pub mod Powers
