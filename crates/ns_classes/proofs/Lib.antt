pub mod Based
pub mod Lawfully
pub mod Lasting
