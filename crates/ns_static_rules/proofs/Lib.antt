pub mod Inside
pub mod Keeping
pub mod Past
pub mod Shapes
