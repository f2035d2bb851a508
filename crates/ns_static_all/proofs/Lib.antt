pub mod Alike
pub mod Counting
pub mod First
