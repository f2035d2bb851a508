pub mod Never
pub mod SentKeys
pub mod Tabled
