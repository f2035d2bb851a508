pub mod Outcome
pub mod Eval
pub mod Run
pub mod Rows
pub mod Whole
pub mod Laws
pub mod Tables
