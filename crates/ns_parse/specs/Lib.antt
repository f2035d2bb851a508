pub mod Classes
pub mod Views
pub mod Parse
pub mod lemmas
pub mod laws
pub mod Places
pub mod Answers
pub mod Called
