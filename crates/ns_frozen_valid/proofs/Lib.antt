pub mod Gone
pub mod Framed
pub mod Ended
pub mod Starts
