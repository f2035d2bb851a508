pub mod Lists
pub mod Found
pub mod Linked
pub mod Few
