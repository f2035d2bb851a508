pub mod Cells
pub mod Arguments
pub mod Frames
pub mod Waiting
pub mod Thawed
