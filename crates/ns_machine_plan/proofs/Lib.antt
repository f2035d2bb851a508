pub mod Made
mod Packing
pub mod Walk
pub mod Rows
pub mod Lookup
pub mod Kept
pub mod Following
pub mod Finding
pub mod Among
mod Sorting
mod Named
mod Sending
mod Outward
mod SpelledRows
pub mod Admitted
