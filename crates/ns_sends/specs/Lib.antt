pub mod Answered
pub mod Never
pub mod Texts
pub mod Unanswered
