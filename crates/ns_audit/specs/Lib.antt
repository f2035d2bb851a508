pub mod Audit
pub mod Image
pub mod Module
pub mod NextSend
pub mod Stated
