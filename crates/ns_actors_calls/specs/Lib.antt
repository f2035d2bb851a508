pub mod Letters
pub mod Parts
pub mod Shown
pub mod Steps
pub mod Seen
pub mod Posting
