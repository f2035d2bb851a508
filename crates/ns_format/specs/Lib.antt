pub mod Pieces
pub mod Leads
pub mod Format
pub mod Consists
