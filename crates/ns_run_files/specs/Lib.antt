pub mod Guard
pub mod Programs
pub mod Refusal
pub mod Task
pub mod Acts
pub mod Tests
pub mod laws
