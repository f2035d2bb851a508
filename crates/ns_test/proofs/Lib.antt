pub mod Counts
pub mod Names
pub mod Numbers
pub mod Asked
pub mod InParts
pub mod SentOn
pub mod Opened
pub mod Examples
