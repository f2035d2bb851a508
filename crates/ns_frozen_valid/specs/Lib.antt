pub mod Cells
pub mod First
pub mod Kernel
pub mod Frames
pub mod Rest
