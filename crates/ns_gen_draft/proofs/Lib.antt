pub mod Stand
pub mod Numbers
pub mod Counted
pub mod Tables
