pub mod Handing
pub mod Ending
pub mod Unwinding
pub mod Acting
pub mod Parts
pub mod Answering
