pub mod Beginning
pub mod Keeping
pub mod Positions
pub mod PutBack
