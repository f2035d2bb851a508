mod Different
mod Colons
mod Selectors
mod Sorted
mod Apart
mod Added
