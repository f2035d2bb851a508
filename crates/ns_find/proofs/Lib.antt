pub mod RowSearch
pub mod Parts
pub mod Keeping
mod Among
pub mod Outward
pub mod Staying
pub mod Later
mod Spelled
mod Fronts
mod Declaring
mod Setters
