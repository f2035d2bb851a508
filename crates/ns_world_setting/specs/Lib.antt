pub mod Program
pub mod Cells
pub mod Ready
pub mod Looking
