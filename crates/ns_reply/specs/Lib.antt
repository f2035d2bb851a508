pub mod Reply
pub mod Room
